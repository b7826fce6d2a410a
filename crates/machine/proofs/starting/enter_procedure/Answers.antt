use Rattle.std.proofs.Common.{◌∷◌, refl, subst}
use Rattle.nesting.specs.Called.{IsCalled}
use Rattle.nesting.specs.View.{next_of}
use Rattle.machine.specs.Frames.{stack}
use Rattle.steps.proofs.Named.{command_calls}
use Rattle.machine.proofs.Silent.{reaches_goes, same_left}
use Rattle.steps.proofs.Leads.Silent.{then_goes}
use Rattle.machine.proofs.starting.enter_procedure.Goals as goal

pub returns-in_ok-hold-in-Some-clause-leads : goal.returns-in_ok-hold-in-Some-clause-leads
returns-in_ok-hold-in-Some-clause-leads g c = λ last s fits.
    let frames = stack c.args.frames.now in
    let name = c.args.name.now in
    let args = c.args.args.now in
    let levels = c.args.levels in
    let called = subst (λ o. IsCalled next_of o c.call.new.state levels name args s)
    c.in-Some.is (c.in_ok-nesting.ensures.called s fits) in
    let shown = called.nests in
    record {
      status = shown.status;
      fits = shown.fits;
      goes = then_goes
          (same_left last frames
          (command_calls levels (name ∷ args) s name args refl called.procedure called.found))
          (then_goes (reaches_goes last frames shown.reaches)
          (c.in_ok-hold-in-Some.ensures.goes last shown.status));
    }

pub returns-in-None-clause-leads : goal.returns-in-None-clause-leads
returns-in-None-clause-leads g c = λ last s fits.
    let kept = subst
    (λ o. IsCalled next_of o c.call.new.state c.args.levels c.args.name.now c.args.args.now s)
    c.in-None.is (c.in_ok-nesting.ensures.called s fits) in
    (kept.0, kept.1, refl)
