use Rattle.std.proofs.Common.{refl}
use Rattle.expects.proofs.Comings.{comes_as}
use Rattle.expects.specs.View.{course_of_talk, has_failed}
use Rattle.expects.proofs.waiting.noted.Goals as goal

pub returns-in-Failed-clause-comes : goal.returns-in-Failed-clause-comes
returns-in-Failed-clause-comes g c = λ s fits.
    rw (c.write_failed.ensures, c.in-Failed.is)
    (comes_as course_of_talk _ has_failed s _ fits refl)
