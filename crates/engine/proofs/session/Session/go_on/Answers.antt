use Rattle.std.proofs.Common.{◌≡◌, ◌+◌, length, sym, subst}
use Rattle.machine.specs.Frames.{stack}
use Rattle.machine.specs.Phases.{IsPlan, after_acts, deed_in, paired}
use Rattle.machine.specs.Below.{StandsOver}
use Rattle.engine.proofs.Sessions.{counts_on, went_on}
use Rattle.engine.proofs.session.Session.go_on.Goals as goal

pub returns-in-Ok-clause-at : goal.returns-in-Ok-clause-at
returns-in-Ok-clause-at g c = λ text args limit past at.
    let self = c.args.self.now in
    let same = c.replace-phase.ensures.value in
    let small = counts_on self text args limit past at in
    let on = c.in-Ok.ensures.stands at.last at.status at.plan small at.fits at.below
    (subst (λ phase.
    IsPlan at.last phase (stack self.running.frames) at.status self.answers at.plan)
    (sym same) at.is_plan) in
    went_on self _ text args limit past c.args.answer at
    (subst (λ phase. StandsOver c.forward.new.running c.in-Ok.phase c.forward.new.state
    c.forward.new.answers
    (after_acts at.plan (paired (deed_in phase) c.args.answer))) same on)
    (subst (λ phase.
    c.forward.new.answers ≡ self.answers + length (paired (deed_in phase) c.args.answer)) same
    (c.in-Ok.ensures.counts small))
