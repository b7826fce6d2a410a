use Rattle.meanings.proofs.Once.{once}
use Rattle.meanings.proofs.laws.one_answer.Goals as goal

pub returns : goal.returns
returns c = once
