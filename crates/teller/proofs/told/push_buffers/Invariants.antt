use Rattle.std.proofs.Common.{◌≡◌, ◌++◌, true, drop}
use Rattle.teller.specs.Told.{buffers}
use Rattle.teller.proofs.told.push_buffers.Given as goal

abbrev pub invariant-loop-row : goal.invariant-loop-row
invariant-loop-row g l =
    l.out.items ++ buffers l.first (drop l.row-index l.rows)
    ≡ l.fn.out.items ++ buffers true l.rows
