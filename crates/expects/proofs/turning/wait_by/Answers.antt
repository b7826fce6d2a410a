use Rattle.std.proofs.Common.{◌≡◌, ◌∙◌, ◌-◌, suc, sym, ap, arith}
use Rattle.choices.specs.Lines.{rows_of}
use Rattle.expects.proofs.Answering.{waits_is}
use Rattle.expects.proofs.Comings.{comes_as}
use Rattle.expects.specs.Clock.{later}
use Rattle.expects.specs.Turn.{timed}
use Rattle.expects.specs.View.{course_of_turned, turn_of}
use Rattle.state.proofs.Fits.{left_fits}
use Rattle.state.proofs.Ticks.{tick_refused}
use Rattle.state.specs.Status.{lines}
use Rattle.expects.proofs.turning.wait_by.Goals as goal

pub returns-then-state-eq0-clause-comes : goal.returns-then-state-eq0-clause-comes
returns-then-state-eq0-clause-comes g c = λ s fits.
    comes_as course_of_turned _ _ s _ fits
    (tick_refused s _ (fits.left ∙ c.if-state-eq0.true))

pub returns-clause-comes : goal.returns-clause-comes
returns-clause-comes g c = λ s fits.
    let t = c.args.turn.value in
    let more = c.args.state.now.left - 1 in
    let clock = c.args.clock in
    let taken : turn_of c.take_rows-rows.new.self ≡ turn_of t =
    c.take_rows-rows.ensures.turn ∙ ap turn_of c.deref_mut.ensures.value in
    let ids : c.ids.result.now ≡ t.effective.ids =
    c.ids.ensures ∙ ap (λ (u : _). u.effective.ids) c.deref.ensures
    ∙ ap (λ (u : _). u.effective.ids) taken in
    let rows : c.fill.new.rows.items ≡ rows_of (lines s) t.effective.ids =
    c.in_ok-fill.ensures.rows ∙ ap (rows_of c.args.state.now.ids.table.lines) ids
    ∙ ap (λ ls. rows_of ls t.effective.ids) (sym fits.ids.peers.lines) in
    let next : turn_of c.set_clock.new.self ≡ timed (later clock) (turn_of t) =
    c.set_clock.ensures.turn
    ∙ ap (λ u. timed c.later.result (turn_of u)) c.deref_mut-2.ensures.value
    ∙ ap (timed c.later.result) taken
    ∙ ap (λ k. timed k (turn_of t)) c.later.ensures in
    let levels : c.set_clock.new.self.levels ≡ t.levels =
    c.set_clock.ensures.levels ∙ ap (λ u. u.levels) c.deref_mut-2.ensures.value
    ∙ c.take_rows-rows.ensures.levels ∙ ap (λ u. u.levels) c.deref_mut.ensures.value in
    let left : s.left ≡ suc more = omega (arith, fits.left, c.if-state-eq0.false) in
    comes_as course_of_turned _ _ (record s { left = more }) _ (left_fits _ s fits more)
    (waits_is clock (turn_of t) (turn_of c.set_clock.new.self) t.levels c.set_clock.new.self.levels
    more c.fill.new.rows.items s left rows next levels)
