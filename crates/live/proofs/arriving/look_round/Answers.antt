use Rattle.std.proofs.Common.{◌∙◌, ap, option_map}
use Rattle.std.proofs.lemmas.Option.{IfSome_then}
use Rattle.std.proofs.lemmas.Result.{IfOk-weaker}
use Rattle.acts.specs.Deed.{reply_of}
use Rattle.live.specs.Kept.{ids_of}
use Rattle.live.specs.Turns.{last_of}
use Rattle.live.proofs.Arrivals.{comes_back, comes_front}
use Rattle.live.proofs.Order.{turns_first, turns_later}
use Rattle.live.proofs.Silence.{sees_then, sees_turned}
use Rattle.live.proofs.arriving.look_round.Goals as goal

pub returns-in-Some-clause-sees : goal.returns-in-Some-clause-sees
returns-in-Some-clause-sees g c = rw c.in-Some.is at c.in_ok-answer.ensures.sees

pub returns-in-None-clause-sees : goal.returns-in-None-clause-sees
returns-in-None-clause-sees g c =
    let ids = ids_of g.S.Link.Owned.owner c.args.peers.now.list.items in
    let now = ids_of g.S.Link.Owned.owner c.look_through.new.peers.list.items in
    IfOk-weaker c.look_through-in-None.result _ _ (λ found later.
    sees_turned g.S.System.step _ _ ids c.args.rows.now c.split_at.result.0.now
    c.split_at.result.1.now _ _ (option_map reply_of found) c.split_at.ensures.by_index.0
    (sees_then g.S.System.step _ _ _ ids now c.split_at.result.1.now c.split_at.result.0.now _ _ _
    (option_map reply_of found) (rw c.in-None.is at c.in_ok-answer.ensures.sees)
    c.look_through.ensures.ids later))
    c.look_through-in-None.ensures.sees

pub returns-in-Some-clause-first : goal.returns-in-Some-clause-first
returns-in-Some-clause-first g c =
    turns_first g.S.System.step _ _ _ c.args.rows.now c.split_at.result.0.now
    c.split_at.result.1.now _ c.turn_of.result _ _ (reply_of c.in-Some.answer)
    c.turn_of.ensures.turn c.split_at.ensures.front c.split_at.ensures.back
    (rw c.in-Some.is at c.in_ok-answer.ensures.first)

pub returns-in-None-clause-first : goal.returns-in-None-clause-first
returns-in-None-clause-first g c =
    let owner = g.S.Link.Owned.owner in
    let ids = ids_of owner c.args.peers.now.list.items in
    let now = ids_of owner c.look_through.new.peers.list.items in
    IfOk-weaker c.look_through-in-None.result _ _ (λ found firsts. IfSome_then found firsts (λ answer.
    turns_later g.S.System.step _ _ _ ids now c.args.rows.now c.split_at.result.0.now
    c.split_at.result.1.now _ c.turn_of.result _ _ _ (reply_of answer) c.turn_of.ensures.turn
    c.split_at.ensures.front c.split_at.ensures.back
    (rw c.in-None.is at c.in_ok-answer.ensures.sees) c.look_through.ensures.ids))
    c.look_through-in-None.ensures.first

pub returns-in-Some-clause-of_rows : goal.returns-in-Some-clause-of_rows
returns-in-Some-clause-of_rows g c =
    comes_back c.args.rows.now c.split_at.result.0.now c.split_at.result.1.now
    (reply_of c.in-Some.answer) c.split_at.ensures.by_index.0
    (rw c.in-Some.is at c.in_ok-answer.ensures.of_rows)

pub returns-in-None-clause-of_rows : goal.returns-in-None-clause-of_rows
returns-in-None-clause-of_rows g c =
    IfOk-weaker c.look_through-in-None.result _ _ (λ found some. IfSome_then found some (λ answer.
    comes_front c.args.rows.now c.split_at.result.0.now c.split_at.result.1.now (reply_of answer)
    c.split_at.ensures.by_index.0))
    c.look_through-in-None.ensures.of_rows

pub returns-in-None-clause-ids : goal.returns-in-None-clause-ids
returns-in-None-clause-ids g c = c.look_through-in-None.ensures.ids ∙ c.look_through.ensures.ids

pub returns-in-None-clause-deadline : goal.returns-in-None-clause-deadline
returns-in-None-clause-deadline g c =
    c.look_through-in-None.ensures.deadline ∙ c.look_through.ensures.deadline

pub returns-in-None-clause-last : goal.returns-in-None-clause-last
returns-in-None-clause-last g c =
    IfOk-weaker c.look_through-in-None.result _ _ (λ found last.
    last ∙ ap (λ at. last_of (option_map reply_of found) at)
    (rw c.in-None.is at c.in_ok-answer.ensures.last))
    c.look_through-in-None.ensures.last
