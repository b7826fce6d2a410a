use Rattle.state.proofs.FitIds.{closed_fit, first_closes}
use Rattle.state.proofs.ids.Ids.close_oldest.Goals as goal

pub returns : goal.returns
returns g c = λ ids fits.
    let out = c.in_ok-id.ensures.closes in
    first_closes c.args.self.now ids fits c.in_ok-id.id out.line c.close_oldest.new.self.lines
    out.split out.same
    (closed_fit c.args.self.now ids fits c.close_oldest.new.self c.close.new.self c.in_ok-id.id
    (c.in_ok-id.ensures.fits ids.peers fits.peers) c.in_ok-id.ensures.next c.close.ensures)
