use Rattle.std.proofs.Common.{sym}
use Rattle.state.proofs.Numbers.{whole_read}
use Rattle.state.proofs.arguments.whole_number_in.Goals as goal

pub returns : goal.returns
returns g c =
    sym (whole_read c.args.value.now c.number.result c.number.ensures.value
    c.number.ensures.in_range)
