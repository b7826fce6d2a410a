use Rattle.std.proofs.Common.{◌≡◌, List, length, ◌++◌}
use Rattle.std.specs.List.{AllByRecursion}
use Rattle.acts.specs.declared.row.Row.{Row}
use Rattle.lines.specs.Rows.{AreRows, IsRow, rows_text}
use Rattle.lines.proofs.rows.read_rows.Given as goal

abbrev pub invariant-loop-rest : goal.invariant-loop-rest
invariant-loop-rest g l =
    AllByRecursion IsRow l.rows.items × (l.text ≡ rows_text l.rows.items ++ l.rest)
    × ((rows : List Row) → AreRows rows l.text → (left : List Row) × AreRows left l.rest)

abbrev pub decreases-loop-rest : goal.decreases-loop-rest
decreases-loop-rest g l = length l.rest
