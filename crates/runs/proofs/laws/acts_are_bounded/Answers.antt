use Rattle.runs.proofs.AllRuns as runs
use Rattle.runs.proofs.laws.acts_are_bounded.Goals as goal

pub returns : goal.returns
returns c = runs.acts_are_bounded
