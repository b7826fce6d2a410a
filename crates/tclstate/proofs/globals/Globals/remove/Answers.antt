use Rattle.std.proofs.Common.{Ok, Some, None, ap, ◌∙◌, sym}
use Rattle.tclstate.specs.Scopes.{without_name}
use Rattle.tclstate.specs.Stored.{variable_of}
use Rattle.tclstate.proofs.Frames.{found_in, removed_from, content_removed}
use Rattle.tclstate.proofs.globals.Globals.remove.Goals as goal

pub returns-in-None-clause-trouble : goal.returns-in-None-clause-trouble
returns-in-None-clause-trouble g c =
    ap (without_name c.args.self.now c.args.name.now)
    (found_in variable_of c.self.inside.variables.entries _ c.self.view_is c.args.name.now None
    c.in-None.ensures.value)

pub returns-clause-ok : goal.returns-clause-ok
returns-clause-ok g c =
    let at = sym c.in-Some.is ∙ c.shift_remove.ensures.value in
    ap (without_name c.args.self.now c.args.name.now)
    (found_in variable_of c.self.inside.variables.entries _ c.self.view_is c.args.name.now
    (Some c.in-Some.field-0) at)
    ∙ content_removed c.args.self.now c.args.name.now c.in-Some.field-0
    ∙ ap Ok (sym (removed_from variable_of c.self.inside.variables.entries _ c.self.view_is
    c.args.name.now _ c.shift_remove.ensures.entries))
