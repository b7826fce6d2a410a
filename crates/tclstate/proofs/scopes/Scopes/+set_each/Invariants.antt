use Rattle.std.proofs.Common.{length}
use Rattle.tclstate.proofs.scopes.Scopes.+set_each.Given as goal

-- the elements that are still to be written
abbrev pub decreases-set_each : goal.decreases-set_each
decreases-set_each g l = length l.elements.now
