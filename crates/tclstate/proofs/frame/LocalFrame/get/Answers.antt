use Rattle.std.proofs.Common.{sym}
use Rattle.tclstate.specs.Stored.{local_of}
use Rattle.tclstate.proofs.Frames.{found_in}
use Rattle.tclstate.proofs.frame.LocalFrame.get.Goals as goal

pub returns : goal.returns
returns g c = sym (found_in local_of c.self.inside.variables.entries _ c.self.view_is
    c.args.name.now _ c.found_near.ensures)
