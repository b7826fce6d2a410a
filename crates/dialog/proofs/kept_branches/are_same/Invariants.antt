use Rattle.std.proofs.Common.{◌≡◌, length}
use Rattle.dialog.proofs.kept_branches.are_same.Given as goal

-- where the words still to be compared are the same, all are
abbrev pub invariant-loop-word : goal.invariant-loop-word
invariant-loop-word g l = l.left ≡ l.right → l.fn.words ≡ l.fn.others

abbrev pub decreases-loop-word : goal.decreases-loop-word
decreases-loop-word g l = length l.left
