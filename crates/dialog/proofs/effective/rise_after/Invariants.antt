use Rattle.std.proofs.Common.{drop}
use Rattle.dialog.specs.Standing.{RiseAfter}
use Rattle.dialog.proofs.effective.rise_after.Given as goal

-- where the ids still to be looked at rise, all do
abbrev pub invariant-loop-id : goal.invariant-loop-id
invariant-loop-id l =
    RiseAfter l.last (drop l.id-index l.ids) → RiseAfter l.fn.first l.fn.ids
