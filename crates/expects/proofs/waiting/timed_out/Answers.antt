use Rattle.choices.specs.declared.choice.Trigger.TheVariants as after
use Rattle.expects.proofs.Answering.{times_out_reaches}
use Rattle.expects.proofs.Comings.{comes_after, talk_comes}
use Rattle.expects.specs.Turn.{consumed_by}
use Rattle.expects.specs.View.{course_of_turned, turn_of}
use Rattle.expects.proofs.waiting.timed_out.Goals as goal

pub returns-clause-comes : goal.returns-clause-comes
returns-clause-comes g c = λ s fits.
    let t = c.args.turn.value in
    let made = rw c.deref.ensures at (c.in_ok-choice.ensures.selects s fits) in
    talk_comes _ _ _
    (comes_after course_of_turned _ _ _ _
    (times_out_reaches c.in_ok-choice.choice (turn_of t) t.levels _ s made)
    (c.in_ok-settle.ensures.comes (consumed_by after.TimedOut made.selected s) made.fits))
