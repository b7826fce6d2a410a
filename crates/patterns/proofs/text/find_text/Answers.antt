use Rattle.patterns.proofs.Finds.{text_found}
use Rattle.patterns.proofs.text.find_text.Goals as goal

pub returns : goal.returns
returns c =
    text_found c.args.text.now c.args.window.now c.args.from c.first_place.result c.requires.low
    c.first_place.ensures.place
