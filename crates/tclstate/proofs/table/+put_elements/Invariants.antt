use Rattle.std.proofs.Common.{length}
use Rattle.tclstate.proofs.table.+put_elements.Given as goal

-- the elements that are still to be written
abbrev pub decreases-put_elements : goal.decreases-put_elements
decreases-put_elements g l = length l.more.now
