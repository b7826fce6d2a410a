use Rattle.std.proofs.Common.{◌≡◌, suc, ap, arith}
use Rattle.expects.proofs.Answering.{body_over, body_runs}
use Rattle.expects.proofs.Comings.{comes_reading}
use Rattle.expects.specs.View.{course_of_turned, turn_of}
use Rattle.expects.proofs.turning.run.Goals as goal

pub returns-in_default-clause-comes : goal.returns-in_default-clause-comes
returns-in_default-clause-comes g c = λ s fits.
    let turn = c.args.turn.value in
    let at : c.deref.result.now.levels ≡ turn.levels = ap (λ t. t.levels) c.deref.ensures in
    let zero : turn.levels ≡ 0 = omega (arith, at, c.in_default.ensures) in
    let is = rw c.as_slice.ensures at c.in_ok-script.ensures.tree in
    comes_reading course_of_turned _ _ s _ fits
    (body_over c.in_ok-script.script (turn_of turn) turn.levels c.args.body.now s is
    c.in_ok-raised.field-0 zero c.in_ok-raised.ensures)

pub returns-clause-comes : goal.returns-clause-comes
returns-clause-comes g c = λ s fits.
    let turn = c.args.turn.value in
    let at : c.deref.result.now.levels ≡ turn.levels = ap (λ t. t.levels) c.deref.ensures in
    let deeper : turn.levels ≡ suc c.in-Some.inner =
    omega (arith, at, c.in-Some.ensures.0, c.in-Some.ensures.1) in
    let is = rw c.as_slice.ensures at c.in_ok-script.ensures.tree in
    comes_reading course_of_turned _ _ s _ fits
    (body_runs c.in_ok-script.script (turn_of turn) turn.levels c.args.body.now s is c.in-Some.inner
    deeper)
