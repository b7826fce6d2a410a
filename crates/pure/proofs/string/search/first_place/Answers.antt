use Rattle.pure.proofs.Places.{first_found}
use Rattle.pure.proofs.string.search.first_place.Goals as goal
use Rattle.tcltext.proofs.Elements.{some_left}

pub returns : goal.returns
returns c =
    first_found c.args.needle.now c.args.text.now c.find.result
    (some_left c.args.needle.now c.if-is_empty.ensures) c.find.ensures
