use Rattle.choices.proofs.Rising.{sound_skipped}
use Rattle.choices.proofs.table.Table.skip.Goals as goal

pub invariant_of-self : goal.invariant_of-self
invariant_of-self g c =
    sound_skipped c.self.inside.entries.items c.self.inside.rows.items c.self.inside.next
    c.number_after-self-inside.result c.number_after-self-inside.ensures c.self.invariant
