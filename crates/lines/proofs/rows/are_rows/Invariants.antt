use Rattle.std.proofs.Common.{◌↔◌, drop}
use Rattle.std.specs.List.{AllByRecursion}
use Rattle.lines.specs.Rows.{IsRow}
use Rattle.lines.proofs.rows.are_rows.Given as goal

abbrev pub invariant-loop-row : goal.invariant-loop-row
invariant-loop-row l =
    AllByRecursion IsRow (drop l.row-index l.rows) ↔ AllByRecursion IsRow l.rows
