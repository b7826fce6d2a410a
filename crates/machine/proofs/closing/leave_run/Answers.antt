use Rattle.std.proofs.Common.{IfOk, subst}
use Rattle.machine.specs.Phases.{Stands}
use Rattle.runs.specs.Closing.{reports}
use Rattle.machine.proofs.closing.leave_run.Goals as goal

pub returns-in_ok-text-in-Break-clause-stands : goal.returns-in_ok-text-in-Break-clause-stands
returns-in_ok-text-in-Break-clause-stands g c = λ frames last s answers fits.
    let state = c.args.state.now in
    rw c.in-Break.is
    (subst (λ text. IfOk c.report-in-Break.result (λ phase. Stands last phase frames state answers
    (reports text s))) c.in_ok-text-in-Break.ensures
    (c.report-in-Break.ensures.stands frames last s answers state fits))

pub returns-in_ok-text-in-Continue-clause-stands :
    goal.returns-in_ok-text-in-Continue-clause-stands
returns-in_ok-text-in-Continue-clause-stands g c = λ frames last s answers fits.
    let state = c.args.state.now in
    rw c.in-Continue.is
    (subst (λ text. IfOk c.report-in-Continue.result
    (λ phase. Stands last phase frames state answers
    (reports text s))) c.in_ok-text-in-Continue.ensures
    (c.report-in-Continue.ensures.stands frames last s answers state fits))

pub returns-in_ok-text-in-Again-clause-stands : goal.returns-in_ok-text-in-Again-clause-stands
returns-in_ok-text-in-Again-clause-stands g c = λ frames last s answers fits.
    let state = c.args.state.now in
    rw c.in-Again.is
    (subst (λ text. IfOk c.report-in-Again.result (λ phase. Stands last phase frames state answers
    (reports text s))) c.in_ok-text-in-Again.ensures
    (c.report-in-Again.ensures.stands frames last s answers state fits))

pub returns-in_ok-text-in-AgainRunning-clause-stands :
    goal.returns-in_ok-text-in-AgainRunning-clause-stands
returns-in_ok-text-in-AgainRunning-clause-stands g c = λ frames last s answers fits.
    let state = c.args.state.now in
    rw c.in-AgainRunning.is
    (subst (λ text. IfOk c.report-in-AgainRunning.result
    (λ phase. Stands last phase frames state answers
    (reports text s))) c.in_ok-text-in-AgainRunning.ensures
    (c.report-in-AgainRunning.ensures.stands frames last s answers state fits))
