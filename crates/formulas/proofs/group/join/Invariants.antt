use Rattle.std.proofs.Common.{◌≡◌, length}
use Rattle.tclparse.specs.Formula.{no_links}
use Rattle.formulas.specs.View.{links_then}
use Rattle.formulas.proofs.Groups.{IsHalfJoined}
use Rattle.formulas.proofs.group.join.Given as goal

abbrev pub invariant-loop-operator : goal.invariant-loop-operator
invariant-loop-operator g l = record {
  joined : IsHalfJoined l.level (links_then l.fn.links.items no_links) l.links.items l.run.items
      l.rest.items;
  first : l.first ≡ l.fn.first;
}

abbrev pub decreases-loop-operator : goal.decreases-loop-operator
decreases-loop-operator g l = length l.links.items
