use Rattle.std.proofs.Common.{ap}
use Rattle.machine.specs.Frames.{stack}
use Rattle.machine.proofs.Machines.{leads_from, on_ok}
use Rattle.machine.proofs.Silent.{same_left}
use Rattle.steps.proofs.Leads.Silent.{then_goes}
use Rattle.machine.proofs.Waiting.{turn_goes}
use Rattle.expects.specs.View.{course_of_talk, turn_of}
use Rattle.machine.proofs.turns.talk.Goals as goal

pub returns-in-Turned : goal.returns-in-Turned
returns-in-Turned g c = λ last s fits.
    on_ok c.settle.result (λ leaf goes. record {
      status = s;
      fits = fits;
      goes = then_goes
          (same_left last (stack c.args.frames.now) (ap
          (λ t. course_of_talk t s) c.in-Turned.is)) goes;
    })
    (c.settle.ensures.goes last s)

pub returns-in-Turns : goal.returns-in-Turns
returns-in-Turns g c = λ last s fits.
    let frames = stack c.args.frames.now in
    let turn = c.in-Turns.turn.value in
    on_ok c.take_turn.result (λ leaf leads.
    leads_from last (stack c.take_turn.new.frames) c.take_turn.new.state
    (then_goes (same_left last frames (ap (λ t. course_of_talk t s) c.in-Turns.is))
    (turn_goes last frames (turn_of turn) turn.levels s))
    leads)
    (c.take_turn.ensures.leads last s fits)
