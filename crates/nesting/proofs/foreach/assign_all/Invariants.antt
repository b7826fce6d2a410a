use Rattle.std.proofs.Common.{◌≡◌, ◌-◌, ◌++◌, drop, length, map, take}
use Rattle.nesting.specs.Foreach.{behind, row}
use Rattle.nesting.specs.Looping.{pair_of}
use Rattle.nesting.proofs.Assigning.{Leaves}
use Rattle.state.specs.Prelude.{Status, FitsState}
use Rattle.nesting.proofs.foreach.assign_all.Given as goal

abbrev pub invariant-pairs : goal.invariant-pairs
invariant-pairs g l = record {
  leaves : (s : Status) → FitsState l.fn.state s →
      Leaves l.state s (row (map (λ p. pair_of p) l.fn.pairs.items))
      (row (map (λ p. pair_of p) (drop l.index l.pairs.items)));
  behind : map (λ p. pair_of p) (take l.index l.pairs.items)
      ++ map behind (map (λ p. pair_of p) (drop l.index l.pairs.items))
      ≡ map behind (map (λ p. pair_of p) l.fn.pairs.items);
  left : l.state.left ≡ l.fn.state.left;
}

abbrev pub decreases-pairs : goal.decreases-pairs
decreases-pairs g l = length l.pairs.items - l.index
