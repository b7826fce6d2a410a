use Rattle.std.proofs.Common.{◌≡◌}
use Rattle.tclparse.specs.Formula.{no_links}
use Rattle.tclparse.specs.Grouping.{joined_to}
use Rattle.formulas.specs.View.{formula_of, links_then}
use Rattle.formulas.proofs.group.group.Given as goal

abbrev pub invariant-loop-done : goal.invariant-loop-done
invariant-loop-done g l =
    (formula_of l.part, links_then l.rest.items no_links)
    ≡ joined_to l.done (formula_of l.fn.first) (links_then l.fn.links.items no_links)
