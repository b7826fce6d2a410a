use Rattle.std.proofs.Common.{Some, None, refl, ap}
use Rattle.std.proofs.lemmas.Result.{on_ok_weaker, on_err_weaker, IfErr-weaker}
use Rattle.tclstate.specs.declared.error.ScopeError.TheVariants as error
use Rattle.tclstate.specs.Pairs.{put}
use Rattle.tclstate.specs.Scopes.{reduced, is_link, frame_without, on_ok}
use Rattle.tclstate.specs.Stored.{local_of}
use Rattle.tclstate.proofs.Frames.{found_in, unchanged_in_place, put_in_place}
use Rattle.tclstate.proofs.Reach.{trouble_here, changed_reached, trouble_reached}
use Rattle.tclstate.proofs.frame.LocalFrame.remove_element.Goals as goal

pub returns-in_default-clause-trouble : goal.returns-in_default-clause-trouble
returns-in_default-clause-trouble g c =
    λ outer. trouble_here (frame_without c.args.name.now (Some c.args.index.now)) c.args.self.now
    c.args.globals.now c.args.name.now outer error.NoVariable
    (ap is_link (found_in local_of c.self.inside.variables.entries _ c.self.view_is c.args.name.now
    None c.in_default.ensures.value))
    (ap (λ v. on_ok (put c.args.self.now c.args.name.now) (reduced v c.args.index.now))
    (found_in local_of c.self.inside.variables.entries _ c.self.view_is c.args.name.now None
    c.in_default.ensures.value))

pub returns-clause-ok : goal.returns-clause-ok
returns-clause-ok g c =
    on_ok_weaker c.remove_element.result
    (λ e outer. changed_reached (λ v. reduced v c.args.index.now)
    (frame_without c.args.name.now (Some c.args.index.now))
    c.args.self.now c.args.globals.now c.args.name.now outer refl _ _ _ _
    (found_in local_of c.self.inside.variables.entries _ c.self.view_is c.args.name.now (Some _)
    c.in-Some.ensures.value)
    e
    (put_in_place local_of c.self.inside.variables.entries _ c.self.view_is c.args.name.now _ _
    c.remove_element.new.self c.in-Some.ensures.value
    (c.get_mut.follows.holds c.remove_element.new.self).0))
    c.remove_element.ensures.ok

pub returns-clause-trouble : goal.returns-clause-trouble
returns-clause-trouble g c =
    IfErr-weaker c.remove_element.result _ _
    (λ e h outer. trouble_reached (λ v. reduced v c.args.index.now)
    (frame_without c.args.name.now (Some c.args.index.now))
    c.args.self.now c.args.globals.now c.args.name.now outer refl _ e
    (found_in local_of c.self.inside.variables.entries _ c.self.view_is c.args.name.now (Some _)
    c.in-Some.ensures.value)
    h)
    c.remove_element.ensures.trouble

pub returns-clause-unchanged : goal.returns-clause-unchanged
returns-clause-unchanged g c =
    on_err_weaker c.remove_element.result
    (unchanged_in_place local_of c.self.inside.variables.entries _ c.self.view_is c.args.name.now
    _ _ c.remove_element.new.self c.in-Some.ensures.value
    (c.get_mut.follows.holds c.remove_element.new.self).0)
    c.remove_element.ensures.unchanged
