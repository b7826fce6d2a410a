use Rattle.integers.proofs.Fits.{shift_is}
use Rattle.integers.proofs.shifts.over_power.Goals as goal

pub returns : goal.returns
returns c = shift_is c.args.a c.args.n c.min.result c.ranges.a c.min.ensures
