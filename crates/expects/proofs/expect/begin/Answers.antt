use Rattle.expects.proofs.Comings.{from_ok}
use Rattle.expects.specs.View.{course_of_begun, form_of}
use Rattle.expects.proofs.expect.begin.Goals as goal

pub returns-in-Some-clause-comes : goal.returns-in-Some-clause-comes
returns-in-Some-clause-comes g c = λ s fits.
    from_ok (course_of_begun c.args.levels) _ c.by_argument.result _ _
    (c.in-Some.ensures (form_of c.args.form) c.args.levels s)
    (c.by_argument.ensures.comes s fits)
