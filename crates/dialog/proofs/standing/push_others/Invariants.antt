use Rattle.std.proofs.Common.{◌≡◌, ◌++◌, drop}
use Rattle.dialog.specs.Standing.{others}
use Rattle.dialog.proofs.standing.push_others.Given as goal

-- the pairs so far, and those still to be added
abbrev pub invariant-loop-pair : goal.invariant-loop-pair
invariant-loop-pair g l =
    l.pairs.items ++ others l.named (drop l.pair-index l.standing)
    ≡ l.fn.pairs.items ++ others l.named l.standing
