use Rattle.std.proofs.Common.{◌≡◌, List, length, ◌++◌}
use Rattle.std.specs.List.{AllByRecursion}
use Rattle.acts.specs.declared.row.Row.{Row}
use Rattle.lines.specs.Rows.{AreRows, IsRow, rows_text}
use Rattle.records.proofs.passing.has_rows.Given as goal

abbrev pub invariant-loop-rest : goal.invariant-loop-rest
invariant-loop-rest l =
    ((before : List Row) × AllByRecursion IsRow before × (l.text ≡ rows_text before ++ l.rest))
    × ((rows : List Row) → AreRows rows l.text → (left : List Row) × AreRows left l.rest)

abbrev pub decreases-loop-rest : goal.decreases-loop-rest
decreases-loop-rest l = length l.rest
