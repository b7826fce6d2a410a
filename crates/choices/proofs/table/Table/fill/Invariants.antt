use Rattle.std.proofs.Common.{◌≡◌, ◌≤◌, ◌++◌, drop, length, vec_capacity}
use Rattle.choices.specs.Lines.{rows_of}
use Rattle.choices.proofs.table.Table.fill.Given as goal

-- the rows so far, and those of the remaining ids; no more rows than ids so far, and no less room
-- than there was
abbrev pub invariant-loop-id : goal.invariant-loop-id
invariant-loop-id g l =
    (l.rows.items ++ rows_of l.self.lines (drop l.id-index l.ids) ≡ rows_of l.self.lines l.ids)
    × (length l.rows.items ≤ l.id-index) × (vec_capacity l.fn.rows ≤ vec_capacity l.rows)
