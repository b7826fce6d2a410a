use Rattle.searches.proofs.searched.Searched.next_slot.Goals as goal

pub invariant_of-self : goal.invariant_of-self
invariant_of-self g c =
    c.make_slot.ensures c.self.inside.gone c.self.inside.buffer.bytes c.self.invariant
