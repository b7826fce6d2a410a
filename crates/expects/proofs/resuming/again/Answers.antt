use Rattle.std.proofs.Common.{◌≡◌, ◌∙◌, ◌==◌, true, false, length, sym, ap, subst}
use Rattle.acts.specs.Flaw as flaw
use Rattle.state.specs.Prelude.{Raises, raises, lines}
use Rattle.dialog.specs.Standing.{pruned}
use Rattle.expects.proofs.Answering.{again_on, again_over}
use Rattle.expects.proofs.Comings.{begins_as, comes_as}
use Rattle.expects.proofs.Reporting.{failed_is}
use Rattle.expects.specs.Turn.{first_of, leaving, named_by, renewed}
use Rattle.expects.specs.View.{course_of_opening, turn_of}
use Rattle.expects.proofs.resuming.again.Goals as goal

pub returns-then-is_empty-clause-comes : goal.returns-then-is_empty-clause-comes
returns-then-is_empty-clause-comes g c = λ s fits.
    let t = c.args.turn.value in
    let left : c.prune.new.self ≡ pruned (lines s) t.effective =
    c.prune.ensures ∙ ap (λ u. pruned c.args.state.now.ids.table.lines u.effective)
    c.deref_mut.ensures.value
    ∙ ap (λ ls. pruned ls t.effective) (sym fits.ids.peers.lines) in
    let ids : c.ids-2.result.now ≡ c.prune.new.self.ids =
    c.ids-2.ensures ∙ ap (λ u. u.effective.ids) c.deref-2.ensures in
    let none : (length c.prune.new.self.ids == 0) ≡ true =
    ap (λ is. length is == 0) (sym ids) ∙ sym c.if-is_empty.ensures in
    let first : c.first_of-first.result ≡ first_of t.effective.ids =
    c.first_of-first.ensures
    ∙ ap first_of (c.ids.ensures ∙ ap (λ u. u.effective.ids) c.deref.ensures)
    in
    comes_as course_of_opening _ _ s _ fits
    (failed_is c.shut.result c.in_ok-failed.field-0 s _ c.in_ok-failed.ensures
    (λ fault is.
    again_over c.args.clock (turn_of t) t.levels s c.prune.new.self left none
    ∙ ap (λ i. raises (flaw.NotOpen (named_by i)) s) (sym first)
    ∙ ap (λ f. raises f s)
    (sym (subst (λ why. Raises (flaw.NotOpen (named_by c.first_of-first.result)) why) is
    c.shut.ensures))))

pub returns-clause-comes : goal.returns-clause-comes
returns-clause-comes g c = λ s fits.
    let t = c.args.turn.value in
    let e = c.prune.new.self in
    let left : e ≡ pruned (lines s) t.effective =
    c.prune.ensures ∙ ap (λ u. pruned c.args.state.now.ids.table.lines u.effective)
    c.deref_mut.ensures.value
    ∙ ap (λ ls. pruned ls t.effective) (sym fits.ids.peers.lines) in
    let ids : c.ids-2.result.now ≡ e.ids =
    c.ids-2.ensures ∙ ap (λ u. u.effective.ids) c.deref-2.ensures in
    let some : (length e.ids == 0) ≡ false =
    ap (λ is. length is == 0) (sym ids) ∙ sym c.if-is_empty.ensures in
    let turn : turn_of c.begin_again.new.self ≡ renewed c.args.clock (leaving e (turn_of t)) =
    c.begin_again.ensures.turn
    ∙ ap (λ u. renewed c.args.clock (turn_of u)) c.deref_mut-2.ensures.value
    ∙ ap (λ u. renewed c.args.clock (leaving e (turn_of u))) c.deref_mut.ensures.value in
    let levels : c.begin_again.new.self.levels ≡ t.levels =
    c.begin_again.ensures.levels ∙ ap (λ u. u.levels) c.deref_mut-2.ensures.value
    ∙ ap (λ u. u.levels) c.deref_mut.ensures.value in
    comes_as course_of_opening _ _ s _ fits
    (again_on c.args.clock (turn_of t) t.levels s e left some
    ∙ sym (begins_as (turn_of c.begin_again.new.self) (renewed c.args.clock (leaving e (turn_of t)))
    c.begin_again.new.self.levels t.levels s turn levels))
