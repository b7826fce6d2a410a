use Rattle.std.proofs.Common.{subst}
use Rattle.machine.specs.Began.{HasBegun}
use Rattle.machine.specs.Frames.{left_of, stack}
use Rattle.machine.specs.Phases.{course_of_next}
use Rattle.machine.proofs.Machines.{leads_from, on_ok}
use Rattle.machine.proofs.starting.start.Goals as goal

pub returns-in-Has-clause-leads : goal.returns-in-Has-clause-leads
returns-in-Has-clause-leads g c = λ last s fits.
    subst (λ b. HasBegun last b (stack c.begin_next.new.frames) c.begin_next.new.state
    (left_of last (course_of_next c.args.next s) (stack c.args.frames.now)))
    c.in-Has.is (c.in_ok-outcome.ensures.begins last s fits)

pub returns-in-Asks-clause-leads : goal.returns-in-Asks-clause-leads
returns-in-Asks-clause-leads g c = λ last s fits.
    let begins = subst (λ b. HasBegun last b (stack c.begin_next.new.frames) c.begin_next.new.state
    (left_of last (course_of_next c.args.next s) (stack c.args.frames.now)))
    c.in-Asks.is (c.in_ok-outcome.ensures.begins last s fits) in
    on_ok c.ask.result
    (λ leaf leads. leads_from last (stack c.ask.new.frames) c.ask.new.state begins.goes leads)
    (c.ask.ensures.leads last begins.status begins.fits)
