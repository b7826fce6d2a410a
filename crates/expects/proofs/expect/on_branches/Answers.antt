use Rattle.std.proofs.Common.{◌≡◌, ◌∙◌, refl, sym, ap}
use Rattle.dialog.specs.Standing.{all_of, put_at}
use Rattle.expects.proofs.Answering.{first_is}
use Rattle.expects.proofs.Comings.{begins_as, comes_as}
use Rattle.expects.specs.Expect.{first_turn, put}
use Rattle.expects.specs.View.{course_of_opening, turn_of}
use Rattle.state.proofs.Fits.{ids_fit}
use Rattle.expects.proofs.expect.on_branches.Goals as goal

pub returns-in_ok-new-in-Waits-clause-comes : goal.returns-in_ok-new-in-Waits-clause-comes
returns-in_ok-new-in-Waits-clause-comes g c = λ s fits.
    let b = c.args.branches.now in
    let t = c.in_ok-new-in-Waits.field-0.value in
    let e = c.in_ok-effective-in-Waits.effective in
    let all : e ≡ all_of s.ids.standing b =
    c.in_ok-effective-in-Waits.ensures ∙ ap (λ st. all_of st b) (sym fits.ids.standing) in
    let turn : turn_of t ≡ first_turn b s =
    ap turn_of c.in_ok-new-in-Waits.ensures.ok
    ∙ first_is b s e c.timeout.result all c.timeout.ensures in
    let levels : t.levels ≡ c.args.levels =
    ap (λ u. u.levels) c.in_ok-new-in-Waits.ensures.ok in
    comes_as course_of_opening _ _ s _ fits
    (rw c.in-Waits.is (sym (begins_as (turn_of t) (first_turn b s) t.levels c.args.levels s turn
    levels)))

pub returns-in_ok-put-in-Stands-clause-comes : goal.returns-in_ok-put-in-Stands-clause-comes
returns-in_ok-put-in-Stands-clause-comes g c = λ s fits.
    let b = c.args.branches.now in
    let side = c.in-Stands.side in
    comes_as course_of_opening _ _ (put side b s) _
    (ids_fit c.args.state.now s fits _ _ (record {
      peers = fits.ids.peers;
      unreaped = fits.ids.unreaped;
      standing = ap (put_at side b) fits.ids.standing ∙ sym c.in_ok-put-in-Stands.ensures.put;
      size = fits.ids.size;
      drops_nulls = fits.ids.drops_nulls;
      next = fits.ids.next;
    }))
    (rw (c.in-Stands.is, c.empty.ensures) refl)
