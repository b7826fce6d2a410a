use Rattle.std.proofs.Common.{◌≡◌, ℕ, List, drop, ◌++◌}
use Rattle.lines.specs.Rows.{rows_text}
use Rattle.records.specs.Sink.{Takes}
use Rattle.records.proofs.written.put_rows.Given as goal

abbrev pub invariant-loop-row : goal.invariant-loop-row
invariant-loop-row g l =
    (done : List ℕ) × Takes g.S.Sink.adds g.S.Sink.has_failed l.fn.sink done l.sink
    × (rows_text l.rows ≡ done ++ rows_text (drop l.row-index l.rows))
