use Rattle.std.proofs.Common.{◌≡◌, take, drop}
use Rattle.choices.specs.Lines.{rows_anew}
use Rattle.choices.proofs.table.Table.refresh.Given as goal

-- the rows so far are written anew, the others are as they were
abbrev pub invariant-loop-row : goal.invariant-loop-row
invariant-loop-row g l = record {
  anew : take l.row-index l.rows ≡ rows_anew l.self.lines (take l.row-index l.fn.rows);
  left : drop l.row-index l.rows ≡ drop l.row-index l.fn.rows;
}
