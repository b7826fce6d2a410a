use Rattle.std.proofs.Common.{sym, ap}
use Rattle.nesting.specs.View as control
use Rattle.machine.specs.Frames.{left_of, onward_of, stack}
use Rattle.machine.proofs.Held.{does_instead, held_goes, runs_instead}
use Rattle.state.specs.Outcome.{Gives}
use Rattle.steps.proofs.Leads.Silent.{same_goes, then_goes}
use Rattle.machine.proofs.starting.put_begun.Goals as goal

pub returns-in-Has-clause-goes : goal.returns-in-Has-clause-goes
returns-in-Has-clause-goes g c = λ last s.
    same_goes (ap (λ b. left_of last (control.course_of_begun b s) (stack c.args.frames.now))
    c.in-Has.is)

pub returns-in_ok-push-in-Runs-clause-goes : goal.returns-in_ok-push-in-Runs-clause-goes
returns-in_ok-push-in-Runs-clause-goes g c = λ last s.
    let frames = stack c.args.frames.now in
    let new = stack c.push.new.frames in
    then_goes
    (same_goes (ap (λ b. left_of last (control.course_of_begun b s) frames) c.in-Runs.is))
    (then_goes (runs_instead last frames c.in-Runs.it c.in-Runs.levels new s c.in_ok-push-in-Runs.ensures)
    (same_goes (ap (λ v. onward_of last new s (Gives v)) (sym c.empty.ensures))))

pub returns-in_ok-push-in-Does-clause-goes : goal.returns-in_ok-push-in-Does-clause-goes
returns-in_ok-push-in-Does-clause-goes g c = λ last s.
    let frames = stack c.args.frames.now in
    let new = stack c.push-in-Does.new.frames in
    then_goes
    (same_goes (ap (λ b. left_of last (control.course_of_begun b s) frames) c.in-Does.is))
    (then_goes
    (does_instead last frames c.in-Does.doing c.in-Does.levels new s c.in_ok-push-in-Does.ensures)
    (same_goes (ap (λ v. onward_of last new s (Gives v)) (sym c.empty-in-Does.ensures))))

pub returns-in_ok-put_above-in-Holds-clause-goes : goal.returns-in_ok-put_above-in-Holds-clause-goes
returns-in_ok-put_above-in-Holds-clause-goes g c = λ last s.
    let frames = stack c.args.frames.now in
    let new = stack c.put_above.new.frames in
    then_goes
    (same_goes (ap (λ b. left_of last (control.course_of_begun b s) frames) c.in-Holds.is))
    (then_goes
    (held_goes last frames c.in-Holds.it c.in-Holds.levels c.in-Holds.held new s
    c.in_ok-put_above-in-Holds.ensures)
    (same_goes (ap (λ v. onward_of last new s (Gives v)) (sym c.empty-in-Holds.ensures))))
