use Rattle.state.proofs.FitIds.{closed_fit}
use Rattle.state.proofs.ids.Ids.close.Goals as goal

pub returns : goal.returns
returns g c = λ ids fits.
    closed_fit c.args.self.now ids fits c.close.new.self c.close-2.new.self c.args.id
    (c.close.ensures.fits ids.peers fits.peers) c.close.ensures.next c.close-2.ensures
