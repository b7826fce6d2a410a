use Rattle.std.proofs.Common.{◌<◌, ap, subst}
use Rattle.live.proofs.Table.{past_more}
use Rattle.live.proofs.peers.pass.Goals as goal

pub loop-place-preserved : goal.loop-place-preserved
loop-place-preserved g c =
    past_more g.L.Owned.owner c.args.id.0 c.args.list.now c.loop-place.place
    c.index-list-place.result c.loop-place.invariant
    (subst (λ n. n < c.args.id.0) (ap (λ it. it.0) c.id.ensures) c.if-id.true)
