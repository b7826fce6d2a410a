use Rattle.std.proofs.Common.{[], ap}
use Rattle.machine.specs.Frames.{stack}
use Rattle.machine.proofs.Machines.{over_goes}
use Rattle.machine.proofs.Silent.{same_left}
use Rattle.steps.proofs.Leads.Silent.{then_goes}
use Rattle.machine.proofs.Waiting.{body_goes}
use Rattle.expects.specs.View.{course_of_turned}
use Rattle.state.specs.Outcome.{Gives}
use Rattle.machine.proofs.turns.settle.Goals as goal

pub returns-in-Has-clause-goes : goal.returns-in-Has-clause-goes
returns-in-Has-clause-goes g c = λ last s.
    same_left last (stack c.args.frames.now) (ap (λ t. course_of_turned t s) c.in-Has.is)

pub returns-in_ok-put_above-in-Runs-clause-goes : goal.returns-in_ok-put_above-in-Runs-clause-goes
returns-in_ok-put_above-in-Runs-clause-goes g c = λ last s.
    let frames = stack c.args.frames.now in
    let new = stack c.put_above.new.frames in
    then_goes
    (same_left last frames (ap (λ t. course_of_turned t s) c.in-Runs.is))
    (then_goes
    (body_goes last frames c.in-Runs.script c.in-Runs.levels c.in-Runs.turn new s
    c.in_ok-put_above-in-Runs.ensures)
    (over_goes last new c.empty.result (Gives []) s c.empty.ensures))

pub returns-in-Asks-clause-goes : goal.returns-in-Asks-clause-goes
returns-in-Asks-clause-goes g c = λ last s.
    same_left last (stack c.args.frames.now) (ap (λ t. course_of_turned t s) c.in-Asks.is)
