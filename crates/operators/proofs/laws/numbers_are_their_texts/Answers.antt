use Rattle.operators.proofs.Read.{decimal_is}
use Rattle.operators.proofs.laws.numbers_are_their_texts.Goals as goal

pub returns : goal.returns
returns c = decimal_is
