use Rattle.std.proofs.Common.{◌≡◌, ◌++◌, drop}
use Rattle.dialog.proofs.standing.push_pairs.Given as goal

-- the pairs so far, and those still to be added
abbrev pub invariant-loop-pair : goal.invariant-loop-pair
invariant-loop-pair g l =
    l.pairs.items ++ drop l.pair-index l.more ≡ l.fn.pairs.items ++ l.more
