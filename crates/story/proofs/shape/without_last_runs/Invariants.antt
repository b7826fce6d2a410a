use Rattle.std.proofs.Common.{◌≤◌, length}
use Rattle.story.proofs.shape.without_last_runs.Given as goal

abbrev pub invariant-loop-left : goal.invariant-loop-left
invariant-loop-left l = length l.left ≤ length l.items

abbrev pub decreases-loop-left : goal.decreases-loop-left
decreases-loop-left l = length l.left
