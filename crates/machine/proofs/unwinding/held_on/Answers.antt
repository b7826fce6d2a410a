use Rattle.std.proofs.Common.{subst}
use Rattle.nesting.specs.Nesting.{Nests}
use Rattle.nesting.specs.View as control
use Rattle.machine.specs.Frames.{stack}
use Rattle.machine.proofs.Held.{over_held, runs_held}
use Rattle.state.specs.View.{outcome_of}
use Rattle.machine.proofs.unwinding.held_on.Goals as goal

pub returns-in-Has-clause-unwinds : goal.returns-in-Has-clause-unwinds
returns-in-Has-clause-unwinds g c = λ last s fits.
    let course = control.next_of c.args.held s (outcome_of c.args.outcome) in
    over_held last (stack c.args.frames.now) c.in-Has.outcome c.resumed.new.state course
    (subst (λ n. Nests control.next_of n c.resumed.new.state course) c.in-Has.is
    (c.in_ok-outcome.ensures.nests s fits))

pub returns-in_ok-put_above-in-Runs-clause-unwinds :
    goal.returns-in_ok-put_above-in-Runs-clause-unwinds
returns-in_ok-put_above-in-Runs-clause-unwinds g c = λ last s fits.
    let course = control.next_of c.args.held s (outcome_of c.args.outcome) in
    runs_held last (stack c.args.frames.now) c.in-Runs.it c.in-Runs.levels c.in-Runs.held
    (stack c.put_above.new.frames) c.resumed.new.state course
    c.in_ok-put_above-in-Runs.ensures
    (subst (λ n. Nests control.next_of n c.resumed.new.state course) c.in-Runs.is
    (c.in_ok-outcome.ensures.nests s fits))
