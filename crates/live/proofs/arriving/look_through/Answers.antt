use Rattle.std.proofs.Common.{◌∙◌, [], Some, None, ap, arith, drop, refl, suc, sym, subst, take}
use Rattle.std.proofs.lemmas.List.{take_all, take_more}
use Rattle.std.proofs.lemmas.List.Folds.{list_any_at}
use Rattle.std.proofs.Math.Seq.{split_at}
use Rattle.acts.specs.Deed.{reply_of}
use Rattle.live.specs.Arriving.{Sees, is_of}
use Rattle.live.specs.Kept.{ArePast, ids_of, kept_of}
use Rattle.live.specs.Turns.{last_of}
use Rattle.live.proofs.Order.{first_here}
use Rattle.live.proofs.Silence.{sees_none, sees_then}
use Rattle.live.proofs.arriving.look_through.Goals as goal

pub loop-row-init : goal.loop-row-init
loop-row-init g c =
    let owner = g.S.Link.Owned.owner in record {
      deadline = refl;
      last = refl;
      same = refl;
      sees = sees_none g.S.System.step c.args.system.now
          (ids_of owner c.args.peers.now.list.items) (kept_of owner c.args.peers.now.list.items);
      past = λ k id less _. absurd (omega (arith, c.none-passed.ensures, less));
    }

pub returns-in-Some-clause-sees : goal.returns-in-Some-clause-sees
returns-in-Some-clause-sees g c =
    let owner = g.S.Link.Owned.owner in
    sees_then g.S.System.step _ _ _ (ids_of owner c.args.peers.now.list.items)
    (ids_of owner c.loop-row.peers.list.items) (take c.loop-row.row-index c.args.rows.now) [] _ _ _
    (Some (reply_of c.in-Some.answer)) c.loop-row.invariant.sees c.loop-row.invariant.same
    (rw c.in-Some.is at c.in_ok-answer.ensures.sees)

pub returns-in-Some-clause-ids : goal.returns-in-Some-clause-ids
returns-in-Some-clause-ids g c = c.look_at.ensures.ids ∙ c.loop-row.invariant.same

pub returns-in-Some-clause-deadline : goal.returns-in-Some-clause-deadline
returns-in-Some-clause-deadline g c = c.look_at.ensures.deadline ∙ c.loop-row.invariant.deadline

pub returns-in_err-answer-clause-ids : goal.returns-in_err-answer-clause-ids
returns-in_err-answer-clause-ids g c = c.look_at.ensures.ids ∙ c.loop-row.invariant.same

pub returns-in_err-answer-clause-deadline : goal.returns-in_err-answer-clause-deadline
returns-in_err-answer-clause-deadline g c =
    c.look_at.ensures.deadline ∙ c.loop-row.invariant.deadline

pub returns-clause-ids : goal.returns-clause-ids
returns-clause-ids g c = c.loop-row.invariant.same

pub returns-clause-deadline : goal.returns-clause-deadline
returns-clause-deadline g c = c.loop-row.invariant.deadline

pub loop-row-preserved : goal.loop-row-preserved
loop-row-preserved g c =
    let owner = g.S.Link.Owned.owner in
    let ids = ids_of owner c.args.peers.now.list.items in
    let kept = kept_of owner c.args.peers.now.list.items in record {
      deadline = c.look_at.ensures.deadline ∙ c.loop-row.invariant.deadline;
      last = rw c.in-None.is at c.in_ok-answer.ensures.last ∙ c.loop-row.invariant.last;
      same = c.look_at.ensures.ids ∙ c.loop-row.invariant.same;
      sees = subst (λ done. Sees g.S.System.step c.args.system.now ids done kept None
          (kept_of owner c.look_at.new.peers.list.items) c.look_at.new.system)
          (sym (take_more c.args.rows.now c.loop-row.row-index _ c.loop-row-test.true))
          (sees_then g.S.System.step _ _ _ ids (ids_of owner c.loop-row.peers.list.items) _ _ _ _ _
          None c.loop-row.invariant.sees c.loop-row.invariant.same
          (rw c.in-None.is at c.in_ok-answer.ensures.sees));
      past = subst (λ now. ArePast now c.place_from-place.new.passed.place
          c.place_from-place.new.passed.number) (sym c.look_at.ensures.ids)
          (subst (λ items. ArePast (ids_of owner items) c.place_from-place.new.passed.place
          c.place_from-place.new.passed.number) c.deref.ensures.value
          c.place_from-place.ensures.passed);
    }

pub returns-clause-sees : goal.returns-clause-sees
returns-clause-sees g c =
    let owner = g.S.Link.Owned.owner in
    subst (λ done. Sees g.S.System.step c.args.system.now
    (ids_of owner c.args.peers.now.list.items) done
    (kept_of owner c.args.peers.now.list.items) None (kept_of owner c.loop-row.peers.list.items)
    c.loop-row.system) (take_all c.loop-row.row-index c.args.rows.now c.loop-row-test.false)
    c.loop-row.invariant.sees

pub returns-in-Some-clause-last : goal.returns-in-Some-clause-last
returns-in-Some-clause-last g c =
    rw c.in-Some.is at c.in_ok-answer.ensures.last
    ∙ ap (λ at. last_of (Some (reply_of c.in-Some.answer)) at) c.loop-row.invariant.last

pub returns-clause-last : goal.returns-clause-last
returns-clause-last g c = c.loop-row.invariant.last

pub returns-in-Some-clause-first : goal.returns-in-Some-clause-first
returns-in-Some-clause-first g c =
    let owner = g.S.Link.Owned.owner in
    let i = c.loop-row.row-index in
    first_here g.S.System.step _ _ _ (ids_of owner c.args.peers.now.list.items) _
    c.args.rows.now (take i c.args.rows.now) (drop (suc i) c.args.rows.now) _ _ _ _
    (reply_of c.in-Some.answer) (split_at c.args.rows.now i _ c.loop-row-test.true)
    (rw c.in-Some.is at c.in_ok-answer.ensures.of_row) c.loop-row.invariant.sees
    c.loop-row.invariant.same (rw c.in-Some.is at c.in_ok-answer.ensures.sees)

pub returns-in-Some-clause-of_rows : goal.returns-in-Some-clause-of_rows
returns-in-Some-clause-of_rows g c =
    list_any_at (λ row. is_of row (reply_of c.in-Some.answer)) c.args.rows.now
    c.loop-row.row-index _ c.loop-row-test.true
    (rw c.in-Some.is at c.in_ok-answer.ensures.of_row)

pub place_from-place-requires : goal.place_from-place-requires
place_from-place-requires g c = rw c.deref.ensures.value c.loop-row.invariant.past

pub look_at-requires : goal.look_at-requires
look_at-requires g c = rw c.deref.ensures.value at c.place_from-place.ensures.place
