use Rattle.runs.proofs.Cut.{nothing_follows}
use Rattle.runs.proofs.laws.nothing_follows_a_cut.Goals as goal

pub returns : goal.returns
returns c = nothing_follows
