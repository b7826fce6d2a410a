use Rattle.std.proofs.Common.{◌∙◌}
use Rattle.tcltext.proofs.Within.{read_says}
use Rattle.state.proofs.arguments.is_number.Goals as goal

pub returns : goal.returns
returns c = c.is_some.ensures ∙ read_says c.args.word.now c.read_int.result c.read_int.ensures.value
    c.read_int.ensures.in_range
