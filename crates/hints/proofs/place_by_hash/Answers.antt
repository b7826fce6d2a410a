use Rattle.hints.proofs.Places.{stands_at_index}
use Rattle.hints.proofs.place_by_hash.Goals as goal

pub returns-clause-stands : goal.returns-clause-stands
returns-clause-stands g c =
    stands_at_index c.args.key.now c.args.table.now.entries _ c.get_index_of.ensures.index
