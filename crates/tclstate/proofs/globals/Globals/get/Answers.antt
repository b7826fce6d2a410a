use Rattle.std.proofs.Common.{sym}
use Rattle.tclstate.specs.Stored.{variable_of}
use Rattle.tclstate.proofs.Frames.{found_in}
use Rattle.tclstate.proofs.globals.Globals.get.Goals as goal

pub returns : goal.returns
returns g c = sym (found_in variable_of c.self.inside.variables.entries _ c.self.view_is
    c.args.name.now _ c.found_near.ensures)
