use Rattle.std.proofs.Common.{◌≡◌, length}
use Rattle.nesting.specs.Switch.{body_of}
use Rattle.nesting.proofs.switch.body_of.Given as goal

abbrev pub invariant-bodies : goal.invariant-bodies
invariant-bodies g l = body_of l.rest ≡ body_of l.fn.bodies

abbrev pub decreases-bodies : goal.decreases-bodies
decreases-bodies g l = length l.rest
