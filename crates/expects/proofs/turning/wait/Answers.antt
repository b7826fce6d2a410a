use Rattle.std.proofs.Common.{◌≡◌, true, false, ap, subst}
use Rattle.acts.specs.Raise.{Fails}
use Rattle.expects.proofs.Comings.{comes_as}
use Rattle.expects.proofs.Reporting.{failed_is}
use Rattle.expects.specs.Clock.{clock_of}
use Rattle.expects.specs.Turn.{waits_by}
use Rattle.expects.specs.View.{course_of_turned, turn_of}
use Rattle.kinds.specs.Kinds.{on_ok}
use Rattle.expects.proofs.turning.wait.Goals as goal

pub returns-in_ok-failed-in-Err-clause-comes : goal.returns-in_ok-failed-in-Err-clause-comes
returns-in_ok-failed-in-Err-clause-comes g c = λ s fits.
    let turn = c.args.turn.value in
    let fails = rw (c.deref.ensures, c.deref-2.ensures) at (c.in-Err.ensures.clock s fits) in
    comes_as course_of_turned _ _ s _ fits
    (failed_is c.in-Err.why c.in_ok-failed-in-Err.field-0 s _ c.in_ok-failed-in-Err.ensures
    (λ fault is.
    ap (λ r. on_ok r s (λ clock. waits_by clock (turn_of turn) turn.levels s))
    (subst (λ why. Fails (clock_of turn.clock turn.seconds s) why) is fails)))

pub returns-in_err-failed-in-Err-clause-refused : goal.returns-in_err-failed-in-Err-clause-refused
returns-in_err-failed-in-Err-clause-refused g c = λ running.
    let never : false ≡ true =
    (rw c.deref.ensures at c.in-Err.ensures.running) running in absurd (cc)
