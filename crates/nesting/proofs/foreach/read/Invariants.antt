use Rattle.std.proofs.Common.{◌≡◌, length, map}
use Rattle.std.specs.Prelude.{ℕ, List, []}
use Rattle.nesting.specs.Foreach.{Pair, most_asked, with_pairs}
use Rattle.nesting.specs.Looping.{pair_of}
use Rattle.state.specs.Prelude.{Course, Reaches, Status}
use Rattle.nesting.proofs.foreach.read.Given as goal

abbrev pub invariant-pairs : goal.invariant-pairs
invariant-pairs g l = record {
  reaches : (s : Status) (next : List Pair → List ℕ → Course) →
      Reaches (with_pairs l.fn.args [] s next)
      (with_pairs l.rest (map (λ p. pair_of p) l.pairs.items) s next);
  turns : l.turns ≡ most_asked (map (λ p. pair_of p) l.pairs.items);
}

abbrev pub decreases-pairs : goal.decreases-pairs
decreases-pairs g l = length l.rest
