use Rattle.integers.proofs.Quotients.{whole, above, below_zero}
use Rattle.integers.proofs.laws.remainder_has_the_divisors_sign.Goals as goal

pub returns-clause-whole : goal.returns-clause-whole
returns-clause-whole c = whole

pub returns-clause-above : goal.returns-clause-above
returns-clause-above c = above

pub returns-clause-below : goal.returns-clause-below
returns-clause-below c = below_zero
