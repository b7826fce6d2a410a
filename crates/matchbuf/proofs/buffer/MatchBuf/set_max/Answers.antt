use Rattle.std.proofs.Common.{◌≡◌, rules}
use Rattle.circular_buffer.specs.Buffer.{keep_last}
use Rattle.matchbuf.specs.Held.{held}
use Rattle.matchbuf.proofs.Windows.{fits_sized}
use Rattle.matchbuf.proofs.buffer.MatchBuf.set_max.Goals as goal

pub returns-clause-fits : goal.returns-clause-fits
returns-clause-fits g c = λ j fits.
    let before = c.args.self.now in
    let max = c.args.max in
    let value : c.arrive.new.self ≡ held (keep_last max before.bytes) max = search rules in
    rw c.drop.view_is (rw value (fits_sized j before max fits))
