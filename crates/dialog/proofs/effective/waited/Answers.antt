use Rattle.dialog.proofs.Mentions.{waited_is}
use Rattle.dialog.proofs.effective.waited.Goals as goal

pub returns : goal.returns
returns g c = waited_is c.args.standing.now c.args.branches.now c.pairs_before.result.now
    c.pairs_after.result.now c.named.result.now c.new-ids.result.items c.mention_all.new.ids.items
    c.mention_ids.new.ids.items c.mention_all-2.new.ids.items c.new-ids.ensures.items
    c.pairs_before.ensures c.named.ensures c.pairs_after.ensures c.in_ok-mention_all.ensures
    c.in_ok-mention_ids.ensures c.in_ok-mention_all-2.ensures
