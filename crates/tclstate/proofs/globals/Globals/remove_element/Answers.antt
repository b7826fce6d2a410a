use Rattle.std.proofs.Common.{None, ap}
use Rattle.std.proofs.lemmas.Result.{on_ok_weaker, on_err_weaker, IfErr-weaker}
use Rattle.tclstate.specs.Pairs.{put}
use Rattle.tclstate.specs.Scopes.{reduced, on_ok}
use Rattle.tclstate.specs.Stored.{variable_of}
use Rattle.tclstate.proofs.Frames.{found_in, changed_in_place, trouble_in_place, unchanged_in_place}
use Rattle.tclstate.proofs.globals.Globals.remove_element.Goals as goal

pub returns-in_default-clause-trouble : goal.returns-in_default-clause-trouble
returns-in_default-clause-trouble g c =
    ap (λ v. on_ok (put c.args.self.now c.args.name.now) (reduced v c.args.index.now))
    (found_in variable_of c.self.inside.variables.entries _ c.self.view_is c.args.name.now None
    c.in_default.ensures.value)

pub returns-clause-ok : goal.returns-clause-ok
returns-clause-ok g c =
    on_ok_weaker c.remove_element.result
    (changed_in_place variable_of c.self.inside.variables.entries _ c.self.view_is c.args.name.now
    (λ v. reduced v c.args.index.now)
    _ _ c.remove_element.new.self c.in-Some.ensures.value
    (c.get_mut.follows.holds c.remove_element.new.self).0)
    c.remove_element.ensures.ok

pub returns-clause-trouble : goal.returns-clause-trouble
returns-clause-trouble g c =
    IfErr-weaker c.remove_element.result _ _
    (trouble_in_place variable_of c.self.inside.variables.entries _ c.self.view_is c.args.name.now
    (λ v. reduced v c.args.index.now)
    _ c.in-Some.ensures.value)
    c.remove_element.ensures.trouble

pub returns-clause-unchanged : goal.returns-clause-unchanged
returns-clause-unchanged g c =
    on_err_weaker c.remove_element.result
    (unchanged_in_place variable_of c.self.inside.variables.entries _ c.self.view_is c.args.name.now
    _ _ c.remove_element.new.self c.in-Some.ensures.value
    (c.get_mut.follows.holds c.remove_element.new.self).0)
    c.remove_element.ensures.unchanged
