use Rattle.std.proofs.Common.{◌≡◌, ◌∙◌, true, sym, ap}
use Rattle.choices.specs.LogState.{is_logged}
use Rattle.expects.proofs.Answering.{notes_is}
use Rattle.expects.proofs.Comings.{comes_as}
use Rattle.expects.specs.View.{course_of_talk, turn_of}
use Rattle.expects.proofs.waiting.note.Goals as goal

pub returns-then-is_logged-clause-comes : goal.returns-then-is_logged-clause-comes
returns-then-is_logged-clause-comes g c = λ s fits.
    let t = c.args.turn.value in
    let on : is_logged s.log ≡ true =
    ap is_logged fits.log ∙ sym c.places-is_logged.ensures.log ∙ c.if-is_logged.true in
    comes_as course_of_talk _ _ s _ fits
    (notes_is c.args.id c.args.bytes.items (turn_of t) t.levels s on)
