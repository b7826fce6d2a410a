use Rattle.std.proofs.Common.{refl}
use Rattle.expects.proofs.Comings.{comes_as}
use Rattle.expects.specs.View.{course_of_turned}
use Rattle.expects.proofs.turning.settle.Goals as goal

pub returns-in-None-clause-comes : goal.returns-in-None-clause-comes
returns-in-None-clause-comes g c = λ s fits.
    comes_as course_of_turned _ _ s _ fits (rw (c.in-None.is, c.empty.ensures) refl)
