use Rattle.std.proofs.Common.{◌≡◌, ◌++◌, drop}
use Rattle.readings.proofs.draft.push_ids.Given as goal

-- the ids so far, and those still to be added
abbrev pub invariant-loop-id : goal.invariant-loop-id
invariant-loop-id g l = l.ids.items ++ drop l.id-index l.more ≡ l.fn.ids.items ++ l.more
