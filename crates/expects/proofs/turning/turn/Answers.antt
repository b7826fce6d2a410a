use Rattle.expects.proofs.Comings.{after_ok}
use Rattle.expects.proofs.Selecting.{no_other, selects_reaches}
use Rattle.state.proofs.Refused.{on_err}
use Rattle.expects.specs.Turn.{consumed_by, waits}
use Rattle.expects.specs.View.{course_of_turned, turn_of}
use Rattle.expects.proofs.turning.turn.Goals as goal

pub returns-in-Some-clause-comes : goal.returns-in-Some-clause-comes
returns-in-Some-clause-comes g c = λ s fits.
    let t = c.args.turn.value in
    let made = rw (c.deref.ensures, c.deref-2.ensures, c.in-Some.is)
    at (c.in_ok-choice.ensures.selects s fits) in
    after_ok course_of_turned _ c.does.result _ _
    (selects_reaches (turn_of t) t.levels _ t.trigger _ s (waits (turn_of t) t.levels) made)
    (c.does.ensures.comes (consumed_by t.trigger made.selected s) made.fits)

pub returns-in-None-clause-comes : goal.returns-in-None-clause-comes
returns-in-None-clause-comes g c = λ s fits.
    let t = c.args.turn.value in
    let made = rw (c.deref.ensures, c.deref-2.ensures, c.in-None.is)
    at (c.in_ok-choice.ensures.selects s fits) in
    after_ok course_of_turned _ c.wait.result _ _
    (selects_reaches (turn_of t) t.levels _ t.trigger _ s (waits (turn_of t) t.levels) made)
    (c.wait.ensures.comes (consumed_by t.trigger made.selected s) made.fits)

pub returns-in_err-choice-clause-refused : goal.returns-in_err-choice-clause-refused
returns-in_err-choice-clause-refused g c = λ none running.
    let t = c.args.turn.value in
    let some = rw (c.deref.ensures, c.deref-2.ensures) at c.in_err-choice.ensures.refused in
    absurd (no_other c.args.state.now.ids.table.lines t.trigger t.effective.pairs none some)

pub returns-in-Some-clause-refused : goal.returns-in-Some-clause-refused
returns-in-Some-clause-refused g c = λ none running.
    let t = c.args.turn.value in
    let some = rw (c.deref.ensures, c.deref-2.ensures, c.in-Some.is) at c.in_ok-choice.ensures.some
    in on_err c.does.result
    (absurd (no_other c.args.state.now.ids.table.lines t.trigger t.effective.pairs none some))
