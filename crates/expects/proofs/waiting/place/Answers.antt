use Rattle.std.proofs.Common.{◌≡◌, ◌∙◌, ◌==◌, true, false, length, sym, ap}
use Rattle.choices.specs.LogState.{goes_out}
use Rattle.expects.proofs.Answering.{comes_is}
use Rattle.expects.proofs.Comings.{comes_as}
use Rattle.expects.specs.View.{course_of_talk, turn_of}
use Rattle.expects.proofs.waiting.place.Goals as goal

pub returns-then-goes_out-clause-comes : goal.returns-then-goes_out-clause-comes
returns-then-goes_out-clause-comes g c = λ s fits.
    let t = c.args.turn.value in
    let bytes = c.args.bytes.items in
    let on : goes_out s.log ≡ true =
    ap goes_out fits.log ∙ sym c.places-goes_out.ensures.out ∙ c.if-goes_out.true in
    let some : (length bytes == 0) ≡ false =
    ap (λ n. n == 0) (sym c.args.bytes.ok.0) ∙ sym c.if-is_empty.ensures in
    comes_as course_of_talk _ _ s _ fits
    (comes_is c.args.id bytes (turn_of t) t.levels s some on)
