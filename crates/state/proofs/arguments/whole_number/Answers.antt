use Rattle.std.proofs.Common.{sym}
use Rattle.state.proofs.Numbers.{whole_read}
use Rattle.state.proofs.arguments.whole_number.Goals as goal

pub returns : goal.returns
returns c =
    sym (whole_read c.args.word.now c.read_int.result c.read_int.ensures.value
    c.read_int.ensures.in_range)
