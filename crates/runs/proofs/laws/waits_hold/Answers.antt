use Rattle.runs.proofs.AllRuns as runs
use Rattle.runs.proofs.laws.waits_hold.Goals as goal

pub returns : goal.returns
returns c = runs.waits_hold
