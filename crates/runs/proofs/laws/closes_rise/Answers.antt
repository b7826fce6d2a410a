use Rattle.runs.proofs.Closed as closed
use Rattle.runs.proofs.laws.closes_rise.Goals as goal

pub returns : goal.returns
returns c = closed.closes_rise
