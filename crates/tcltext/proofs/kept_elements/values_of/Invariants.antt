use Rattle.std.proofs.Common.{◌≡◌, ◌++◌, drop}
use Rattle.tcltext.proofs.kept_elements.values_of.Given as goal

abbrev pub invariant-loop-element : goal.invariant-loop-element
invariant-loop-element g l = l.values.items ++ drop l.element-index l.elements ≡ l.elements
