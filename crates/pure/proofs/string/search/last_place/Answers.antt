use Rattle.pure.proofs.Places.{last_found}
use Rattle.pure.proofs.string.search.last_place.Goals as goal
use Rattle.tcltext.proofs.Elements.{some_left}

pub returns : goal.returns
returns c =
    last_found c.args.needle.now c.args.text.now c.rfind.result
    (some_left c.args.needle.now c.if-is_empty.ensures) c.rfind.ensures
