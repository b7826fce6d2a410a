use Rattle.std.proofs.Common.{subst}
use Rattle.acts.specs.Flaw.{flaw_of}
use Rattle.choices.specs.Selects.{taken_by}
use Rattle.expects.proofs.Comings.{comes_as, from_ok}
use Rattle.expects.proofs.Reporting.{failed_is, reports_go, reports_stop}
use Rattle.expects.specs.Parts.{Stops}
use Rattle.expects.specs.Report.{reported}
use Rattle.expects.specs.View.{course_of_turned}
use Rattle.state.proofs.Fits.{scopes_fit}
use Rattle.expects.proofs.turning.does.Goals as goal

pub returns-in-Ok-clause-comes : goal.returns-in-Ok-clause-comes
returns-in-Ok-clause-comes g c = λ s fits.
    let state = c.args.state.now in
    let new = c.report.new.scopes in
    from_ok course_of_turned _ c.run.result _ _
    (reports_go (taken_by c.args.choice.taken) s _ state.scopes new fits.scopes c.in-Ok.ensures)
    (c.run.ensures.comes (record s { scopes = new }) (scopes_fit state s fits new))

pub returns-in_ok-failed-in-Err-clause-comes : goal.returns-in_ok-failed-in-Err-clause-comes
returns-in_ok-failed-in-Err-clause-comes g c = λ s fits.
    let state = c.args.state.now in
    let new = c.report.new.scopes in
    let taken = taken_by c.args.choice.taken in
    comes_as course_of_turned _ _ (record s { scopes = new }) _ (scopes_fit state s fits new)
    (failed_is c.in-Err.why c.in_ok-failed-in-Err.field-0 (record s { scopes = new }) _
    c.in_ok-failed-in-Err.ensures
    (λ fault is.
    reports_stop taken s _ state.scopes new fits.scopes (flaw_of fault)
    (subst (λ why. Stops (reported taken state.scopes) why new) is c.in-Err.ensures)))
