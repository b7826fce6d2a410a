use Rattle.std.proofs.Common.{List, ℕ, map, sym, ap, ◌∙◌}
use Rattle.patterns.specs.Item.{literal}
use Rattle.patterns.specs.Runs.{items_of_run}
use Rattle.patterns.proofs.Needs.{Holds-all}
use Rattle.patterns.proofs.run.Run.text.Goals as goal

pub returns-in-Text : goal.returns-in-Text
returns-in-Text g c =
    Holds-all (items_of_run c.args.self.now) c.as_slice.result.now
    (ap items_of_run c.in-Text.is ∙ ap (λ (x : List ℕ). map literal x) (sym c.as_slice.ensures.value))
