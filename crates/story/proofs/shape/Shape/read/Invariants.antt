use Rattle.std.proofs.Common.{length}
use Rattle.story.proofs.shape.Shape.read.Given as goal

abbrev pub decreases-loop-item : goal.decreases-loop-item
decreases-loop-item g l = length l.rest
