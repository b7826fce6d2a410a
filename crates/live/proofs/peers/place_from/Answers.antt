use Rattle.std.proofs.Common.{◌≡◌, ◌∙◌, sym, rules}
use Rattle.live.proofs.Table.{past_first, same_id}
use Rattle.live.proofs.peers.place_from.Goals as goal

pub returns-then-eq-clause-place : goal.returns-then-eq-clause-place
returns-then-eq-clause-place g c =
    let same : c.id.result.0 ≡ c.args.id.0 = search rules in
    past_first g.L.Owned.owner c.args.id c.args.list.now c.pass-place.result
    c.index-list-place.result c.pass-place.ensures c.if-place-list.true
    (sym c.id.ensures ∙ same_id c.id.result c.args.id same)
