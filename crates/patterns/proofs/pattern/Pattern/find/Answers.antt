use Rattle.std.proofs.Common.{◌+◌, ◌≤◌, length, arith}
use Rattle.patterns.specs.Runs.{items_of_runs}
use Rattle.patterns.proofs.Folds.{compared-length, found_came}
use Rattle.patterns.proofs.RunItems.{steps_of_table}
use Rattle.patterns.proofs.pattern.Pattern.find.Goals as goal

pub returns-clause-found : goal.returns-clause-found
returns-clause-found g c =
    let inside = c.self.inside in
    rw (← c.self.view_is)
    (found_came (items_of_runs inside.runs) inside.ties.start inside.ties.end inside.folds
    c.args.window.now c.locate-found.result
    (rw c.new-window.ensures.value at c.locate-found.ensures.found))

pub returns-clause-steps : goal.returns-clause-steps
returns-clause-steps g c =
    let items = items_of_runs c.self.inside.runs in
    let one : c.saturating_add-steps.result ≤ c.locate-found.new.steps + 1 =
    omega (arith, c.saturating_add-steps.ensures) in
    let tests = rw (c.new-window.ensures.value, compared-length c.self.inside.folds c.args.window.now)
    at c.locate-found.ensures.steps in
    rw (← c.self.view_is)
    (steps_of_table c.locate-found.new.steps c.saturating_add-steps.result (length items)
    (length c.args.window.now + 1) (omega (arith, tests)) one
    (omega arith))
