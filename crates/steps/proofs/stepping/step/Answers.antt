use Rattle.std.proofs.Common.{◌≡◌, ◌∙◌, None, Some, arith, slice_get, subst, sym, ap}
use Rattle.std.proofs.lemmas.Option.{slice_get_past, slice_get-get_or}
use Rattle.steps.specs.Does.{Does}
use Rattle.steps.specs.Machine.{machine}
use Rattle.steps.specs.View.{did_of, spot_of, with_parts}
use Rattle.steps.proofs.Does.{same_does}
use Rattle.steps.proofs.stepping.step.Goals as goal

pub returns-in_default-clause-does : goal.returns-in_default-clause-does
returns-in_default-clause-does g c = λ s.
    let spot = spot_of c.args.spot.now in
    let t = with_parts c.args.scopes.now c.args.procs.now c.args.left.now s in
    let none : slice_get c.args.code.now c.args.spot.now.place ≡ None =
    slice_get_past c.args.code.now c.args.spot.now.place c.in_default.ensures.lookup.3 in
    subst (λ o. Does (machine o spot t) (did_of c.finish.result c.finish.new.self t))
    (sym none) (same_does (c.finish.ensures.does t))

pub returns-in_default-clause-onward : goal.returns-in_default-clause-onward
returns-in_default-clause-onward g c = λ is_open. absurd (c.finish.ensures.ends is_open)

pub returns-clause-does : goal.returns-clause-does
returns-clause-does g c = λ s.
    let spot = spot_of c.args.spot.now in
    let t = with_parts c.args.scopes.now c.args.procs.now c.args.left.now s in
    let it = c.in-Some.instruction.now in
    let some : slice_get c.args.code.now c.args.spot.now.place ≡ Some it =
    slice_get-get_or c.args.code.now c.args.spot.now.place it c.in-Some.ensures.lookup.3.0
    ∙ ap Some (sym c.in-Some.ensures.lookup.1) in
    subst (λ o. Does (machine o spot t)
    (did_of c.in_ok-perform.field-0 c.perform.new.spot
    (with_parts c.perform.new.scopes c.args.procs.now c.perform.new.left s)))
    (sym some) (c.in_ok-perform.ensures.does s)

pub returns-clause-onward : goal.returns-clause-onward
returns-clause-onward g c = λ is_open. (
  c.in-Some.ensures.lookup.3.0,
  c.perform.ensures.ticks,
  λ same. omega (arith, c.perform.ensures.place same),
)
