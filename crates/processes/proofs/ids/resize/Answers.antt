use Rattle.std.proofs.Common.{◌∙◌, sym}
use Rattle.processes.proofs.Changed.{no_size_fits, size_fits}
use Rattle.processes.proofs.ids.resize.Goals as goal

pub returns-then-not-is_open-clause-sizes : goal.returns-then-not-is_open-clause-sizes
returns-then-not-is_open-clause-sizes g c = λ s fits.
    no_size_fits c.args.state.now s fits c.args.id c.args.size.bytes
    (sym c.is_open.ensures ∙ c.if-not-is_open.true)

pub returns-in-Ok-clause-sizes : goal.returns-in-Ok-clause-sizes
returns-in-Ok-clause-sizes g c = λ s fits.
    size_fits c.args.state.now s fits c.args.id c.set_max.new.self c.set_max.ensures.next
    c.args.size.bytes (c.in-Ok.ensures.fits s.ids.peers fits.ids.peers)
