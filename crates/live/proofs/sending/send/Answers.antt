use Rattle.std.proofs.Common.{◌∙◌, ◌==◌, ap, sym}
use Rattle.std.specs.List.{position}
use Rattle.live.proofs.Table.{found_at, ids_set, traded_answer}
use Rattle.live.proofs.sending.send.Goals as goal

pub returns-in-Some-clause-traded : goal.returns-in-Some-clause-traded
returns-in-Some-clause-traded g c =
    let owner = g.S.Link.Owned.owner in
    traded_answer g.S.System.step owner c.args.id _ _ _ _ _ c.send_to.new.peer
    c.args.text.now _
    (found_at owner c.args.id _ c.in-Some.place _
    (ap (position (λ peer. (owner peer.link).0 == c.args.id.0)) (sym c.deref.ensures.value)
    ∙ (sym c.place_of.ensures ∙ c.in-Some.is))
    c.index_mut.ensures.value)
    c.send_to.ensures.owner c.send_to.ensures.exchanged

pub returns-in-Some-clause-ids : goal.returns-in-Some-clause-ids
returns-in-Some-clause-ids g c =
    let owner = g.S.Link.Owned.owner in
    ids_set owner c.args.id _ c.in-Some.place _ c.send_to.new.peer c.send_to.ensures.owner
    (found_at owner c.args.id _ c.in-Some.place _
    (ap (position (λ peer. (owner peer.link).0 == c.args.id.0)) (sym c.deref.ensures.value)
    ∙ (sym c.place_of.ensures ∙ c.in-Some.is))
    c.index_mut.ensures.value)
