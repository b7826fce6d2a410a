use Rattle.std.proofs.Common.{◌∙◌, ◌+◌, ap, sym, subst, arith}
use Rattle.machine.specs.Frames.{next_of, onward_of, left_of, stack, weight, weight_of, words_in, words_of_frame}
use Rattle.steps.specs.Goes.{here}
use Rattle.machine.specs.Phases.{Lightens, Unwinds}
use Rattle.machine.specs.declared.unwinding.Unwound.TheVariants as unwound
use Rattle.state.specs.Budget.{again_of}
use Rattle.state.specs.View.{outcome_of}
use Rattle.machine.proofs.Machines.{over_comes, top_goes, unwinds_from}
use Rattle.steps.proofs.Leads.Silent.{same_goes, then_goes}
use Rattle.machine.proofs.unwinding.unwind.Goals as goal

pub frames-init : goal.frames-init
frames-init g c = record {
  comes = λ last s fits. record { status = s; fits = fits; goes = here };
  lighter = omega arith;
  waiting = omega arith;
  left = omega arith;
}

pub frames-preserved : goal.frames-preserved
frames-preserved g c =
    let old = stack c.frames.frames in
    let rest = stack c.pop.new.frames in
    let new = stack c.resume.new.frames in
    let frame = c.in-Some.frame in
    let o = outcome_of c.frames.outcome in
    let before = c.frames.invariant in
    let weighs = ap weight c.in-Some.ensures in
    let waits = ap words_in c.in-Some.ensures in
    let light = subst (λ u. Lightens u new c.resume.new.state (weight_of frame + weight rest)
    (again_of o + (words_of_frame frame + words_in rest)) c.frames.state.left) c.in-Has.is
    c.in_ok-next.ensures.lightens in
    record {
      comes = λ last s fits.
          let at = before.comes last s fits in
          over_comes c.in-Has.next
          (then_goes at.goes (top_goes last old rest frame at.status o c.in-Some.ensures))
          (subst (λ u. Unwinds last u new c.resume.new.state
          (left_of last (next_of frame at.status o) rest)) c.in-Has.is
          (c.in_ok-next.ensures.unwinds last at.status at.fits));
      lighter = omega (arith, light.0, before.lighter, weighs);
      waiting = omega (arith, light.1, before.waiting, waits);
      left = omega (arith, light.2, before.left);
    }

pub returns-in_default-clause-unwinds : goal.returns-in_default-clause-unwinds
returns-in_default-clause-unwinds g c = λ last s fits.
    let at = c.frames.invariant.comes last s fits in
    let none = c.in_default.ensures in
    record {
      status = at.status;
      fits = at.fits;
      goes = then_goes at.goes
          (same_goes (ap (λ fs. onward_of last fs at.status (outcome_of c.frames.outcome))
          (none.0 ∙ sym none.1)));
    }

pub returns-in_default-clause-lightens : goal.returns-in_default-clause-lightens
returns-in_default-clause-lightens g c =
    let before = c.frames.invariant in
    let same = c.in_default.ensures.0 ∙ sym c.in_default.ensures.1 in
    let weighs = ap weight same in
    let waits = ap words_in same in
    (omega (arith, weighs, before.lighter), omega (arith, waits, before.waiting), before.left)

pub returns-in_default-clause-emptied : goal.returns-in_default-clause-emptied
returns-in_default-clause-emptied g c = c.in_default.ensures.1

pub returns-in-Begins-clause-unwinds : goal.returns-in-Begins-clause-unwinds
returns-in-Begins-clause-unwinds g c = λ last s fits.
    let old = stack c.frames.frames in
    let rest = stack c.pop.new.frames in
    let new = stack c.resume.new.frames in
    let frame = c.in-Some.frame in
    let o = outcome_of c.frames.outcome in
    let at = c.frames.invariant.comes last s fits in
    unwinds_from last new c.resume.new.state
    (then_goes at.goes (top_goes last old rest frame at.status o c.in-Some.ensures))
    (unwound.Begins c.in-Begins.next)
    (subst (λ u. Unwinds last u new c.resume.new.state
    (left_of last (next_of frame at.status o) rest)) c.in-Begins.is
    (c.in_ok-next.ensures.unwinds last at.status at.fits))

pub returns-in-Begins-clause-lightens : goal.returns-in-Begins-clause-lightens
returns-in-Begins-clause-lightens g c =
    let rest = stack c.pop.new.frames in
    let frame = c.in-Some.frame in
    let before = c.frames.invariant in
    let waits = ap words_in c.in-Some.ensures in
    let light = subst (λ u. Lightens u (stack c.resume.new.frames) c.resume.new.state
    (weight_of frame + weight rest) (again_of (outcome_of c.frames.outcome)
    + (words_of_frame frame + words_in rest)) c.frames.state.left) c.in-Begins.is
    c.in_ok-next.ensures.lightens in
    omega (arith, light, before.waiting, waits, before.left)

pub returns-in-Enters-clause-unwinds : goal.returns-in-Enters-clause-unwinds
returns-in-Enters-clause-unwinds g c = λ last s fits.
    let old = stack c.frames.frames in
    let rest = stack c.pop.new.frames in
    let new = stack c.resume.new.frames in
    let frame = c.in-Some.frame in
    let o = outcome_of c.frames.outcome in
    let at = c.frames.invariant.comes last s fits in
    let enters = unwound.Enters c.in-Enters.it c.in-Enters.levels c.in-Enters.value in
    unwinds_from last new c.resume.new.state
    (then_goes at.goes (top_goes last old rest frame at.status o c.in-Some.ensures)) enters
    (subst (λ u. Unwinds last u new c.resume.new.state
    (left_of last (next_of frame at.status o) rest)) c.in-Enters.is
    (c.in_ok-next.ensures.unwinds last at.status at.fits))

pub returns-in-Enters-clause-lightens : goal.returns-in-Enters-clause-lightens
returns-in-Enters-clause-lightens g c =
    let rest = stack c.pop.new.frames in
    let frame = c.in-Some.frame in
    let before = c.frames.invariant in
    let weighs = ap weight c.in-Some.ensures in
    let waits = ap words_in c.in-Some.ensures in
    let light = subst (λ u. Lightens u (stack c.resume.new.frames) c.resume.new.state
    (weight_of frame + weight rest) (again_of (outcome_of c.frames.outcome)
    + (words_of_frame frame + words_in rest)) c.frames.state.left) c.in-Enters.is
    c.in_ok-next.ensures.lightens in (
      omega (arith, light.0, before.lighter, weighs),
      omega (arith, light.1, before.waiting, waits),
      omega (arith, light.2, before.left),
    )

pub returns-in-Enters-clause-lighter : goal.returns-in-Enters-clause-lighter
returns-in-Enters-clause-lighter g c =
    let rest = stack c.pop.new.frames in
    let frame = c.in-Some.frame in
    let before = c.frames.invariant in
    let weighs = ap weight c.in-Some.ensures in
    let light = subst (λ u. Lightens u (stack c.resume.new.frames) c.resume.new.state
    (weight_of frame + weight rest) (again_of (outcome_of c.frames.outcome)
    + (words_of_frame frame + words_in rest)) c.frames.state.left) c.in-Enters.is
    c.in_ok-next.ensures.lightens in
    omega (arith, light.0, before.lighter, weighs)
