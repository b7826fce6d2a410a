use Rattle.std.proofs.Common.{◌++◌, map, ◌∙◌}
use Rattle.tclstate.proofs.Keys.{keys_texts}
use Rattle.tclstate.proofs.table.keys.Goals as goal

pub loop-index-init : goal.loop-index-init
loop-index-init g c =
    (λ i. c.new-names.ensures.items i ++ map (λ k. k.items)
    ((c.into_iter-index-iterator.ensures.into_iter_gives ∙ c.keys-index-items.ensures.rest) i))
    ∙ keys_texts c.args.elements.now.entries
