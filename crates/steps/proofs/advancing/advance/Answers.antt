use Rattle.std.proofs.Common.{◌≡◌, ◌∙◌, None, ap, arith, inl, inr, length, refl, slice_get, subst, sym, ⊎_elim}
use Rattle.std.proofs.lemmas.Option.{slice_get_past}
use Rattle.steps.specs.Does.{Does, stays, then}
use Rattle.steps.specs.Machine.{machine}
use Rattle.steps.specs.View.{IsOpen, did_of, spot_of, with_parts}
use Rattle.steps.specs.declared.progress.Progress.TheVariants as went
use Rattle.steps.proofs.First.{Counts, any_state, end_counts}
use Rattle.steps.proofs.Goes.{call_open, goes_on}
use Rattle.steps.proofs.Measure.{falls, fewer_left, no_way_back}
use Rattle.steps.proofs.Quiet.{Passed, idle, quiet_took}
use Rattle.steps.proofs.advancing.advance.Goals as goal

pub steps-init : goal.steps-init
steps-init g c = (
  (λ s. stays),
  omega arith,
  (λ same. omega arith),
  (λ said quiet none. inr (quiet, none, refl)),
  λ past. refl,
)

pub steps-preserved : goal.steps-preserved
steps-preserved g c =
    let procs = c.args.procs.now in
    let goes : c.in_ok-progress.progress ≡ went.GoesOn =
    goes_on c.in_ok-progress.progress (sym c.ne.ensures ∙ c.if-ne.false) in
    let onward = c.in_ok-progress.ensures.onward (subst IsOpen (sym goes) tt) in (
      (λ s. then (c.steps.invariant.0 s)
          (subst (λ progress. Does
          (machine (slice_get c.args.code.now c.steps.spot.place) (spot_of c.steps.spot)
          (with_parts c.steps.scopes procs c.steps.left s))
          (did_of progress c.step.new.spot (with_parts c.step.new.scopes procs c.step.new.left s)))
          goes (c.in_ok-progress.ensures.does s))),
      omega (arith, c.steps.invariant.1, c.step.ensures.ticks),
      no_way_back c.args.spot.now.place c.steps.spot.place c.step.new.spot.place c.args.left.now
          c.steps.left c.step.new.left c.step.ensures.ticks c.steps.invariant.1
          c.steps.invariant.2 onward.2,
      (λ said quiet none. ⊎_elim (λ less. inl (omega (arith, less, c.step.ensures.ticks)))
          (λ calm.
          let passed = subst (λ progress. Passed said c.args.code.now c.steps.left
          (did_of progress c.step.new.spot
          (with_parts c.step.new.scopes procs c.step.new.left any_state))) goes
          (quiet_took said c.args.code.now (spot_of c.steps.spot)
          (with_parts c.steps.scopes procs c.steps.left any_state) _ calm.0 calm.1
          (c.in_ok-progress.ensures.does any_state)) in
          ⊎_elim (λ less. inl (omega (arith, less, calm.2)))
          (λ still. inr (still.0, still.1, omega (arith, still.2, calm.2))) passed)
          (c.steps.invariant.3 said quiet none)),
      λ past. absurd (let here = ap (λ spot. spot.place) (c.steps.invariant.4 past) in
          omega (arith, past, here, onward.0)),
    )

pub steps-smaller : goal.steps-smaller
steps-smaller g c =
    let goes : c.in_ok-progress.progress ≡ went.GoesOn =
    goes_on c.in_ok-progress.progress (sym c.ne.ensures ∙ c.if-ne.false) in
    let onward = c.in_ok-progress.ensures.onward (subst IsOpen (sym goes) tt) in
    falls (length c.args.code.now) c.steps.spot.place c.step.new.spot.place c.steps.left
    c.step.new.left onward.0 onward.1 onward.2

pub returns-then-ne-clause-arrives : goal.returns-then-ne-clause-arrives
returns-then-ne-clause-arrives g c = λ s.
    then (c.steps.invariant.0 s) (c.in_ok-progress.ensures.does s)

pub returns-then-ne-clause-onward : goal.returns-then-ne-clause-onward
returns-then-ne-clause-onward g c = λ begun same.
    let onward = c.in_ok-progress.ensures.onward (call_open c.in_ok-progress.progress begun) in
    fewer_left (length c.args.code.now) c.args.spot.now.place c.steps.spot.place
    c.step.new.spot.place c.args.left.now c.steps.left c.step.new.left onward.0
    c.step.ensures.ticks c.steps.invariant.1 c.steps.invariant.2 onward.2 same

pub returns-then-ne-clause-first : goal.returns-then-ne-clause-first
returns-then-ne-clause-first g c = λ said quiet none still.
    let procs = c.args.procs.now in
    ⊎_elim (λ less. absurd (omega (arith, less, still, c.step.ensures.ticks)))
    (λ calm. idle said c.args.code.now c.in_ok-progress.progress c.step.new.spot
    (with_parts c.step.new.scopes procs c.step.new.left any_state) c.steps.left
    (quiet_took said c.args.code.now (spot_of c.steps.spot)
    (with_parts c.steps.scopes procs c.steps.left any_state) _ calm.0 calm.1
    (c.in_ok-progress.ensures.does any_state)))
    (c.steps.invariant.3 said quiet none)

pub returns-then-ne-clause-ended : goal.returns-then-ne-clause-ended
returns-then-ne-clause-ended g c = λ past over.
    let procs = c.args.procs.now in
    let here = ap (λ spot. spot.place) (c.steps.invariant.4 past) in
    let none : slice_get c.args.code.now c.steps.spot.place ≡ None =
    slice_get_past c.args.code.now c.steps.spot.place (omega (arith, past, here)) in
    let counts = subst (λ progress. Counts 0 (did_of progress c.step.new.spot
    (with_parts c.step.new.scopes procs c.step.new.left any_state))) over
    (end_counts (slice_get c.args.code.now c.steps.spot.place) (spot_of c.steps.spot)
    (with_parts c.steps.scopes procs c.steps.left any_state) _ none
    (c.in_ok-progress.ensures.does any_state)) in
    omega (arith, counts)
