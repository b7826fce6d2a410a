use Rattle.processes.proofs.Changed.{nulls_fit}
use Rattle.processes.proofs.ids.reset.Goals as goal

pub returns-clause-drops : goal.returns-clause-drops
returns-clause-drops g c = λ s fits.
    nulls_fit c.args.state.now s fits c.args.id c.set_nulls.new.self c.set_nulls.ensures.next
    c.args.drops (c.set_nulls.ensures.fits s.ids.peers fits.ids.peers)
