use Rattle.std.proofs.Common.{refl}
use Rattle.expects.proofs.Comings.{comes_as}
use Rattle.expects.specs.View.{course_of_opening}
use Rattle.expects.proofs.resuming.behind_code.Goals as goal

pub returns-in-Error-clause-comes : goal.returns-in-Error-clause-comes
returns-in-Error-clause-comes g c = λ s fits.
    comes_as course_of_opening _ _ s _ fits (rw c.in-Error.is refl)

pub returns-in-Return-clause-comes : goal.returns-in-Return-clause-comes
returns-in-Return-clause-comes g c = λ s fits.
    comes_as course_of_opening _ _ s _ fits (rw c.in-Return.is refl)

pub returns-in-Break-clause-comes : goal.returns-in-Break-clause-comes
returns-in-Break-clause-comes g c = λ s fits.
    comes_as course_of_opening _ _ s _ fits (rw c.in-Break.is refl)

pub returns-in-Continue-clause-comes : goal.returns-in-Continue-clause-comes
returns-in-Continue-clause-comes g c = λ s fits.
    comes_as course_of_opening _ _ s _ fits (rw c.in-Continue.is refl)

pub returns-in-Again-clause-comes : goal.returns-in-Again-clause-comes
returns-in-Again-clause-comes g c = λ s fits. rw c.in-Again.is (c.again.ensures.comes s fits)

pub returns-in-AgainRunning-clause-comes : goal.returns-in-AgainRunning-clause-comes
returns-in-AgainRunning-clause-comes g c = λ s fits.
    rw c.in-AgainRunning.is
    (rw c.deref.ensures at (c.again-in-AgainRunning.ensures.comes s fits))
