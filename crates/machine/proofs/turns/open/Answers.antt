use Rattle.std.proofs.Common.{ap}
use Rattle.machine.specs.Frames.{stack}
use Rattle.machine.proofs.Machines.{leads_from, on_ok}
use Rattle.machine.proofs.Silent.{same_left}
use Rattle.steps.proofs.Leads.Silent.{then_goes}
use Rattle.machine.proofs.Waiting.{turn_goes}
use Rattle.expects.specs.View.{course_of_opening, turn_of}
use Rattle.machine.proofs.turns.open.Goals as goal

pub returns-in-Has-clause-leads : goal.returns-in-Has-clause-leads
returns-in-Has-clause-leads g c = λ last s fits. record {
  status = s;
  fits = fits;
  goes = same_left last (stack c.args.frames.now) (ap (λ o. course_of_opening o s) c.in-Has.is);
}

pub returns-in-Turns-clause-leads : goal.returns-in-Turns-clause-leads
returns-in-Turns-clause-leads g c = λ last s fits.
    let frames = stack c.args.frames.now in
    let turn = c.in-Turns.turn.value in
    on_ok c.take_turn.result (λ leaf leads.
    leads_from last (stack c.take_turn.new.frames) c.take_turn.new.state
    (then_goes (same_left last frames (ap (λ o. course_of_opening o s) c.in-Turns.is))
    (turn_goes last frames (turn_of turn) turn.levels s))
    leads)
    (c.take_turn.ensures.leads last s fits)
