use Rattle.pure.proofs.Whole.{whole_read}
use Rattle.pure.proofs.place.whole_of.Goals as goal

pub returns : goal.returns
returns c =
    whole_read c.args.text.now c.read_int.result c.read_int.ensures.value
    c.read_int.ensures.in_range
