use Rattle.operators.proofs.Read.{read_is}
use Rattle.operators.proofs.operand.number_in.Goals as goal

pub returns : goal.returns
returns g c =
    read_is c.args.text.now c.number.result c.number.ensures.value c.number.ensures.in_range
