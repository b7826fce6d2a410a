use Rattle.choices.specs.declared.choice.Trigger.TheVariants as after
use Rattle.expects.proofs.Answering.{ends_reaches}
use Rattle.expects.proofs.Comings.{comes_reading}
use Rattle.expects.specs.Turn.{consumed_by}
use Rattle.expects.specs.View.{course_of_talk, turn_of}
use Rattle.expects.proofs.waiting.ended.Goals as goal

pub returns-clause-comes : goal.returns-clause-comes
returns-clause-comes g c = λ s fits.
    let t = c.args.turn.value in
    let made = rw c.deref.ensures at (c.in_ok-choice.ensures.selects s fits) in
    comes_reading course_of_talk _ _ (consumed_by (after.End c.args.id) made.selected s) _ made.fits
    (rw c.in_ok-ended.ensures.ok
    (ends_reaches c.in_ok-choice.choice (turn_of t) t.levels _ s c.args.id made))
