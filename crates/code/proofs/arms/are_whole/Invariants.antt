use Rattle.std.proofs.Common.{length}
use Rattle.code.specs.Switch.{AreWhole}
use Rattle.code.proofs.arms.are_whole.Given as goal

abbrev pub invariant-arms : goal.invariant-arms
invariant-arms g l = AreWhole l.globs l.rest → AreWhole l.globs l.fn.arms

abbrev pub decreases-arms : goal.decreases-arms
decreases-arms g l = length l.rest
