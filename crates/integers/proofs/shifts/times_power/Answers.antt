use Rattle.integers.proofs.Fits.{power_too_large}
use Rattle.integers.proofs.shifts.times_power.Goals as goal

pub returns-then-n-gt63 : goal.returns-then-n-gt63
returns-then-n-gt63 c = power_too_large c.args.a c.args.n c.if-a-eq0.false c.if-n-gt63.true
