use Rattle.std.proofs.Common.{Some, None, ap, ◌∙◌, sym}
use Rattle.tclstate.specs.Scopes.{is_link}
use Rattle.tclstate.specs.Stored.{local_of}
use Rattle.tclstate.proofs.Frames.{found_in, own_is_no_link}
use Rattle.tclstate.proofs.frame.LocalFrame.is_link.Goals as goal

pub returns-in-Some-Link : goal.returns-in-Some-Link
returns-in-Some-Link g c =
    sym (ap is_link (found_in local_of c.self.inside.variables.entries _ c.self.view_is
    c.args.name.now (Some _) (ap Some (sym c.in-Some-Link.field-0-is)
    ∙ c.in-Some-Link.ensures.value)))

pub returns-in-Some-Own : goal.returns-in-Some-Own
returns-in-Some-Own g c =
    sym (ap is_link (found_in local_of c.self.inside.variables.entries _ c.self.view_is
    c.args.name.now (Some _) (ap Some (sym c.in-Some-Own.field-0-is)
    ∙ c.in-Some-Own.ensures.value))
    ∙ own_is_no_link c.in-Some-Own.field-0-0)

pub returns-in-None : goal.returns-in-None
returns-in-None g c =
    sym (ap is_link (found_in local_of c.self.inside.variables.entries _ c.self.view_is
    c.args.name.now None c.in-None.ensures.value))
