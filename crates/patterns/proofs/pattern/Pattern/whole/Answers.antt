use Rattle.patterns.specs.Runs.{items_of_runs}
use Rattle.patterns.proofs.Finds.{whole_iff_found}
use Rattle.patterns.proofs.pattern.Pattern.whole.Goals as goal

pub returns : goal.returns
returns g c = rw (c.is_some.ensures, ← c.self.view_is)
    (whole_iff_found (items_of_runs c.self.inside.runs) c.args.text.now c.locate.result
    (rw c.new-text.ensures.value at c.locate.ensures.found))
