use Rattle.std.proofs.Common.{ap}
use Rattle.machine.specs.Frames.{next_of, stack}
use Rattle.machine.proofs.Silent.{same_left}
use Rattle.machine.proofs.Machines.{on_ok, unwinds_from}
use Rattle.state.specs.View.{outcome_of}
use Rattle.machine.proofs.unwinding.resume.Goals as goal

pub returns-in-Code-clause-unwinds : goal.returns-in-Code-clause-unwinds
returns-in-Code-clause-unwinds g c = λ last s fits.
    unwinds_from last (stack c.args.frames.now) c.args.state.now
    (same_left last (stack c.args.frames.now)
    (ap (λ f. next_of f s (outcome_of c.args.outcome)) c.in-Code.is)) c.code_on.result
    (c.code_on.ensures.unwinds last (stack c.args.frames.now) c.args.state.now s fits)

pub returns-in-Held-clause-unwinds : goal.returns-in-Held-clause-unwinds
returns-in-Held-clause-unwinds g c = λ last s fits.
    on_ok c.held_on.result (λ unwound unwinds.
    unwinds_from last (stack c.held_on.new.frames) c.held_on.new.state
    (same_left last (stack c.args.frames.now)
    (ap (λ f. next_of f s (outcome_of c.args.outcome)) c.in-Held.is)) unwound unwinds)
    (c.held_on.ensures.unwinds last s fits)

pub returns-in-Turn-clause-unwinds : goal.returns-in-Turn-clause-unwinds
returns-in-Turn-clause-unwinds g c = λ last s fits.
    on_ok c.turn_on.result (λ unwound unwinds.
    unwinds_from last (stack c.turn_on.new.frames) c.turn_on.new.state
    (same_left last (stack c.args.frames.now)
    (ap (λ f. next_of f s (outcome_of c.args.outcome)) c.in-Turn.is)) unwound unwinds)
    (c.turn_on.ensures.unwinds last s fits)
