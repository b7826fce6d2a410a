use Rattle.std.proofs.Common.{◌≡◌, Ok, Some, None, refl, ap, ◌∙◌, sym}
use Rattle.std.proofs.lemmas.Result.{on_ok_weaker, IfErr-weaker, err_from_is_err_and}
use Rattle.tclstate.specs.declared.error.ScopeError.TheVariants as error
use Rattle.tclstate.specs.declared.local.Local.TheVariants as local
use Rattle.tclstate.specs.Pairs.{found, put}
use Rattle.tclstate.specs.Scopes.{Array, as_array, is_link, frame_with_array}
use Rattle.tclstate.specs.Stored.{local_of, texts_of}
use Rattle.tclstate.proofs.Frames.{found_in}
use Rattle.tclstate.proofs.Reach.{changed_here, trouble_here, refusal_here, changed_global, refusal_global}
use Rattle.tclstate.proofs.frame.LocalFrame.make_array.Goals as goal

pub returns-in_err-put-in-None-clause-trouble : goal.returns-in_err-put-in-None-clause-trouble
returns-in_err-put-in-None-clause-trouble g c =
    let p = err_from_is_err_and c.from_residual.result c.from_residual.ensures.1 in
    let none : found c.args.self.now c.args.name.now ≡ None =
    found_in local_of c.self.inside.variables.entries _ c.self.view_is c.args.name.now None
    c.in-None.ensures.value in
    rw (p.1, p.2)
    (λ outer. refusal_here (frame_with_array c.args.name.now) c.args.self.now c.args.globals.now
    c.args.name.now outer (error.NoMemory _)
    (ap is_link none) (rw none refl))

pub returns-in-Some-Own-Text-clause-trouble : goal.returns-in-Some-Own-Text-clause-trouble
returns-in-Some-Own-Text-clause-trouble g c =
    let at = ap Some (ap local.Own (sym c.in-Some-Own-Text.field-0-0-is)
    ∙ sym c.in-Some-Own-Text.field-0-is) ∙ c.in-Some-Own-Text.ensures.value in
    let there = found_in local_of c.self.inside.variables.entries _ c.self.view_is c.args.name.now
    (Some _) at in
    λ outer. trouble_here (frame_with_array c.args.name.now) c.args.self.now c.args.globals.now
    c.args.name.now outer error.NotArray
    (ap is_link there) (ap (as_array c.args.self.now c.args.name.now) there)

pub returns-in-Some-Own-Array-clause-ok : goal.returns-in-Some-Own-Array-clause-ok
returns-in-Some-Own-Array-clause-ok g c =
    let at = ap Some (ap local.Own (sym c.in-Some-Own-Array.field-0-0-is)
    ∙ sym c.in-Some-Own-Array.field-0-is) ∙ c.in-Some-Own-Array.ensures.value in
    let there = found_in local_of c.self.inside.variables.entries _ c.self.view_is c.args.name.now
    (Some _) at in
    λ outer. changed_here (frame_with_array c.args.name.now) c.args.self.now c.args.globals.now
    c.args.name.now outer _
    (ap is_link there) (ap (as_array c.args.self.now c.args.name.now) there)

pub returns-in-Some-Link-clause-ok : goal.returns-in-Some-Link-clause-ok
returns-in-Some-Link-clause-ok g c =
    let there = found_in local_of c.self.inside.variables.entries _ c.self.view_is c.args.name.now
    (Some _) (ap Some (sym c.in-Some-Link.field-0-is) ∙ c.in-Some-Link.ensures.value) in
    on_ok_weaker c.make_array.result
    (λ e outer. changed_global (frame_with_array c.args.name.now) c.args.self.now c.args.globals.now
    c.args.name.now outer _ (ap is_link there) e)
    c.make_array.ensures.ok

pub returns-in-Some-Link-clause-trouble : goal.returns-in-Some-Link-clause-trouble
returns-in-Some-Link-clause-trouble g c =
    let there = found_in local_of c.self.inside.variables.entries _ c.self.view_is c.args.name.now
    (Some _) (ap Some (sym c.in-Some-Link.field-0-is) ∙ c.in-Some-Link.ensures.value) in
    IfErr-weaker c.make_array.result _ _
    (λ e h outer. refusal_global (frame_with_array c.args.name.now) c.args.self.now
    c.args.globals.now c.args.name.now outer e (ap is_link there) h)
    c.make_array.ensures.trouble

pub returns-in_ok-put-in-None-clause-ok : goal.returns-in_ok-put-in-None-clause-ok
returns-in_ok-put-in-None-clause-ok g c =
    let none = found_in local_of c.self.inside.variables.entries _ c.self.view_is c.args.name.now
    None c.in-None.ensures.value in
    λ outer. changed_here (frame_with_array c.args.name.now) c.args.self.now c.args.globals.now
    c.args.name.now outer _
    (ap is_link none)
    (ap (as_array c.args.self.now c.args.name.now) none
    ∙ (λ i. Ok (put c.args.self.now c.args.name.now (Array (texts_of (sym c.new_table.ensures i)))))
    ∙ (λ i. Ok (sym c.in_ok-put-in-None.ensures.ok i)))
