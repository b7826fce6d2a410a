use Rattle.std.proofs.Common.{◌≡◌, ℕ, false, List, length, ◌++◌}
use Rattle.records.specs.Sink.{Gets}
use Rattle.records.proofs.sink.put_all.Given as goal

abbrev pub invariant-text : goal.invariant-text
invariant-text g l =
    (g.S.Sink.has_failed l.sink ≡ false) × (done : List ℕ)
    × Gets g.S.Sink.adds l.fn.sink done l.sink × (l.text ≡ done ++ l.rest)

abbrev pub decreases-text : goal.decreases-text
decreases-text g l = length l.rest
