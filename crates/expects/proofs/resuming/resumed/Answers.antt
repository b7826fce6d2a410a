use Rattle.std.proofs.Common.{refl}
use Rattle.expects.proofs.Comings.{comes_as, from_ok}
use Rattle.expects.specs.View.{course_of_opening}
use Rattle.expects.proofs.resuming.resumed.Goals as goal

pub returns-in-Ok-clause-comes : goal.returns-in-Ok-clause-comes
returns-in-Ok-clause-comes g c = λ s fits.
    comes_as course_of_opening _ _ s _ fits (rw c.in-Ok.is refl)

pub returns-in-Err-Stopped-clause-comes : goal.returns-in-Err-Stopped-clause-comes
returns-in-Err-Stopped-clause-comes g c = λ s fits.
    comes_as course_of_opening _ _ s _ fits
    (rw (c.in-Err-Stopped.is, c.in-Err-Stopped.field-0-is) refl)

pub returns-in-Err-Coded-clause-comes : goal.returns-in-Err-Coded-clause-comes
returns-in-Err-Coded-clause-comes g c = λ s fits.
    from_ok course_of_opening _ c.behind_code.result _ _
    (rw (c.in-Err-Coded.is, c.in-Err-Coded.field-0-is) refl) (c.behind_code.ensures.comes s fits)
