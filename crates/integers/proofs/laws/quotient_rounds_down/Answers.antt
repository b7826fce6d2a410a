use Rattle.integers.proofs.Quotients.{below, greatest, turned}
use Rattle.integers.proofs.laws.quotient_rounds_down.Goals as goal

pub returns-clause-below : goal.returns-clause-below
returns-clause-below c = below

pub returns-clause-greatest : goal.returns-clause-greatest
returns-clause-greatest c = greatest

pub returns-clause-turned : goal.returns-clause-turned
returns-clause-turned c = turned
