use Rattle.std.proofs.Common.{sym, ap}
use Rattle.nesting.specs.View as control
use Rattle.machine.specs.Frames.{left_of, onward_of, stack}
use Rattle.machine.proofs.Held.{held_goes}
use Rattle.steps.proofs.Leads.Silent.{same_goes, then_goes}
use Rattle.nesting.specs.Nesting.{course_of}
use Rattle.state.specs.Outcome.{Gives}
use Rattle.machine.proofs.starting.hold.Goals as goal

pub returns-in-Has-clause-goes : goal.returns-in-Has-clause-goes
returns-in-Has-clause-goes g c = λ last s.
    same_goes (ap (λ n. left_of last (course_of control.next_of n s)
    (stack c.args.frames.now)) c.in-Has.is)

pub returns-in_ok-put_above-in-Runs-clause-goes : goal.returns-in_ok-put_above-in-Runs-clause-goes
returns-in_ok-put_above-in-Runs-clause-goes g c = λ last s.
    let frames = stack c.args.frames.now in
    let new = stack c.put_above.new.frames in
    then_goes
    (same_goes (ap (λ n. left_of last (course_of control.next_of n s) frames) c.in-Runs.is))
    (then_goes
    (held_goes last frames c.in-Runs.it c.in-Runs.levels c.in-Runs.held new s
    c.in_ok-put_above-in-Runs.ensures)
    (same_goes (ap (λ v. onward_of last new s (Gives v)) (sym c.empty.ensures))))
