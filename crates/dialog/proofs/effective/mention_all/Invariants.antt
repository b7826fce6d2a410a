use Rattle.std.proofs.Common.{◌≡◌, ◌++◌, drop}
use Rattle.dialog.specs.Standing.{first_mentions, ids_of}
use Rattle.dialog.proofs.effective.mention_all.Given as goal

-- the ids so far, and those still to be added
abbrev pub invariant-loop-pair : goal.invariant-loop-pair
invariant-loop-pair g l =
    l.ids.items ++ first_mentions l.ids.items (ids_of (drop l.pair-index l.pairs))
    ≡ l.fn.ids.items ++ first_mentions l.fn.ids.items (ids_of l.pairs)
