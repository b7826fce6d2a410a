use Rattle.std.proofs.Common.{◌≡◌, length}
use Rattle.variables.specs.Array.Set.{writes_all}
use Rattle.variables.proofs.array.set.write_all.Given as goal

abbrev pub invariant-elements : goal.invariant-elements
invariant-elements g l =
    writes_all l.name l.fn.elements l.fn.scopes ≡ writes_all l.name l.rest l.scopes

abbrev pub decreases-elements : goal.decreases-elements
decreases-elements g l = length l.rest
