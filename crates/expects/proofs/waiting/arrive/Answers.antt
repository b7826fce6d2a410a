use Rattle.std.proofs.Common.{◌≡◌, ◌∙◌, sym, ap}
use Rattle.choices.specs.Peers.{arrived}
use Rattle.choices.specs.declared.choice.Trigger.TheVariants as after
use Rattle.expects.proofs.Comings.{begins_as, comes_as}
use Rattle.expects.proofs.Selecting.{arrival_fits}
use Rattle.expects.specs.Turn.{begun_by}
use Rattle.expects.specs.View.{course_of_talk, turn_of}
use Rattle.state.specs.Status.{at_id}
use Rattle.expects.proofs.waiting.arrive.Goals as goal

pub returns-clause-comes : goal.returns-clause-comes
returns-clause-comes g c = λ s fits.
    let t = c.args.turn.value in
    let i = c.args.id in
    let bytes = c.args.bytes.now in
    let begun : turn_of c.look_after.new.self ≡ begun_by (after.Arrival i) (turn_of t) =
    c.look_after.ensures.turn
    ∙ ap (λ u. begun_by (after.Arrival i) (turn_of u)) c.deref_mut.ensures.value in
    let levels : c.look_after.new.self.levels ≡ t.levels =
    c.look_after.ensures.levels ∙ ap (λ u. u.levels) c.deref_mut.ensures.value in
    comes_as course_of_talk _ _ (at_id (arrived bytes) i s) _
    (arrival_fits bytes i c.args.state.now c.arrive.new.self s fits
    (c.arrive.ensures.fits s.ids.peers fits.ids.peers) c.arrive.ensures.next)
    (sym (begins_as (turn_of c.look_after.new.self) (begun_by (after.Arrival i) (turn_of t))
    c.look_after.new.self.levels t.levels (at_id (arrived bytes) i s) begun levels))
