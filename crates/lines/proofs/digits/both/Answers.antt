use Rattle.std.proofs.Common.{arith}
use Rattle.lines.proofs.Lanes.{both_marked}
use Rattle.lines.proofs.digits.both.Goals as goal

pub returns : goal.returns
returns c =
    let one = c.fits-first.0 in
    let two = c.fits-second.0 in
    both_marked c.args.first c.args.second (omega arith)
