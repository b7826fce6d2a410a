use Rattle.std.proofs.Common.{ap}
use Rattle.machine.specs.Frames.{stack}
use Rattle.machine.proofs.Silent.{reaches_goes, same_left}
use Rattle.steps.proofs.Leads.Silent.{then_goes}
use Rattle.machine.proofs.Waiting.{turn_goes}
use Rattle.expects.specs.View.{course_of_opening, turn_of}
use Rattle.machine.proofs.unwinding.turn_on.Goals as goal

pub returns-in-Has-clause-unwinds : goal.returns-in-Has-clause-unwinds
returns-in-Has-clause-unwinds g c = λ last s fits.
    let frames = stack c.args.frames.now in
    let came = c.in_ok-outcome.ensures.comes s fits in
    record {
      status = came.status;
      fits = came.fits;
      goes = then_goes (reaches_goes last frames came.reaches)
          (same_left last frames (ap (λ o. course_of_opening o came.status) c.in-Has.is));
    }

pub returns-in-Turns-clause-unwinds : goal.returns-in-Turns-clause-unwinds
returns-in-Turns-clause-unwinds g c = λ last s fits.
    let frames = stack c.args.frames.now in
    let came = c.in_ok-outcome.ensures.comes s fits in
    let turn = c.in-Turns.turn.value in
    record {
      status = came.status;
      fits = came.fits;
      goes = then_goes (reaches_goes last frames came.reaches)
          (then_goes
          (same_left last frames (ap (λ o. course_of_opening o came.status) c.in-Turns.is))
          (turn_goes last frames (turn_of turn) turn.levels came.status));
    }
