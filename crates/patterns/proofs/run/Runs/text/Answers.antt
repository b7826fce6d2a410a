use Rattle.std.proofs.Common.{[], ◌∷◌, sym, ◌∙◌}
use Rattle.patterns.specs.Item.{any_run}
use Rattle.patterns.specs.Runs.{items_of_run, items_of_runs, starred_items}
use Rattle.patterns.proofs.RunItems.{starred_items-last, starred_items-before}
use Rattle.patterns.proofs.Needs.{Holds-within}
use Rattle.patterns.proofs.run.Runs.text.Goals as goal

pub returns-in-Some : goal.returns-in-Some
returns-in-Some g c =
    let runs = c.args.self.now in
    let run = c.in-Some.run'.now in
    Holds-within (items_of_run run) c.text.result.now
    (starred_items c.in-Some.field-0-1.now []) (any_run ∷ items_of_run runs.last) (items_of_runs runs)
    (starred_items-before runs.starred.items c.in-Some.field-0-1.now run (items_of_run runs.last)
    (sym c.deref.ensures.value ∙ c.in-Some.ensures.cases.0))
    c.text.ensures

pub returns-in_default : goal.returns-in_default
returns-in_default g c =
    let runs = c.args.self.now in
    Holds-within (items_of_run runs.last) c.text-text.result.now (starred_items runs.starred.items [])
    [] (items_of_runs runs) (starred_items-last runs.starred.items (items_of_run runs.last))
    c.text-text.ensures
