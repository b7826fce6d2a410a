use Rattle.std.proofs.Common.{◌≡◌, ℕ, List, length, ◌++◌}
use Rattle.hex.specs.Hex.{encode_lower}
use Rattle.records.specs.Sink.{Takes}
use Rattle.records.proofs.written.put_hex.Given as goal

abbrev pub invariant-loop-rest : goal.invariant-loop-rest
invariant-loop-rest g l =
    (done : List ℕ) × Takes g.S.Sink.adds g.S.Sink.has_failed l.fn.sink done l.sink
    × (encode_lower l.bytes ≡ done ++ encode_lower l.rest)

abbrev pub decreases-loop-rest : goal.decreases-loop-rest
decreases-loop-rest g l = length l.rest
