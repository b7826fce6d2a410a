use Rattle.std.proofs.Common.{Ok, Some, None, ap, ◌∙◌, sym}
use Rattle.std.proofs.lemmas.Result.{on_ok_weaker, IfErr-weaker}
use Rattle.tclstate.specs.declared.error.ScopeError.TheVariants as error
use Rattle.tclstate.specs.Scopes.{is_link, without_name, frame_without}
use Rattle.tclstate.specs.Stored.{local_of}
use Rattle.tclstate.proofs.Frames.{found_in, removed_from, local_removed}
use Rattle.tclstate.proofs.Reach.{changed_here, trouble_here, changed_global, trouble_global}
use Rattle.tclstate.proofs.frame.LocalFrame.remove.Goals as goal

pub returns-then-is_link-clause-ok : goal.returns-then-is_link-clause-ok
returns-then-is_link-clause-ok g c =
    on_ok_weaker c.remove.result
    (λ e outer. changed_global (frame_without c.args.name.now None) c.args.self.now
    c.args.globals.now c.args.name.now outer _ (sym c.if-is_link.ensures) e)
    c.remove.ensures.ok

pub returns-then-is_link-clause-trouble : goal.returns-then-is_link-clause-trouble
returns-then-is_link-clause-trouble g c =
    IfErr-weaker c.remove.result _ _
    (λ e h outer. trouble_global (frame_without c.args.name.now None) c.args.self.now
    c.args.globals.now c.args.name.now outer e (sym c.if-is_link.ensures) h)
    c.remove.ensures.trouble

pub returns-in-None-clause-trouble : goal.returns-in-None-clause-trouble
returns-in-None-clause-trouble g c =
    λ outer. trouble_here (frame_without c.args.name.now None) c.args.self.now c.args.globals.now
    c.args.name.now outer error.NoVariable
    (ap is_link (found_in local_of c.self.inside.variables.entries _ c.self.view_is c.args.name.now
    None c.in-None.ensures.value))
    (ap (without_name c.args.self.now c.args.name.now)
    (found_in local_of c.self.inside.variables.entries _ c.self.view_is c.args.name.now None
    c.in-None.ensures.value))

pub returns-clause-ok : goal.returns-clause-ok
returns-clause-ok g c =
    let there = found_in local_of c.self.inside.variables.entries _ c.self.view_is c.args.name.now
    (Some c.in-Some.field-0) (sym c.in-Some.is ∙ c.shift_remove.ensures.value) in
    λ outer. changed_here (frame_without c.args.name.now None) c.args.self.now c.args.globals.now
    c.args.name.now outer _
    (sym c.if-is_link.ensures)
    (ap (without_name c.args.self.now c.args.name.now) there
    ∙ local_removed c.args.self.now c.args.name.now c.in-Some.field-0 (ap is_link (sym there)
    ∙ sym c.if-is_link.ensures)
    ∙ (λ i. Ok (sym (removed_from local_of c.self.inside.variables.entries _ c.self.view_is
    c.args.name.now _ c.shift_remove.ensures.entries) i)))
