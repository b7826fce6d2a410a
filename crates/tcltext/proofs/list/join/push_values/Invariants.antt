use Rattle.std.proofs.Common.{◌≡◌, ◌++◌, drop}
use Rattle.tcltext.specs.Canonical.{joined}
use Rattle.tcltext.proofs.list.join.push_values.Given as goal

abbrev pub invariant-loop-element : goal.invariant-loop-element
invariant-loop-element g l =
    l.text.items ++ joined l.first (drop l.element-index l.elements)
    ≡ l.fn.text.items ++ joined l.fn.first l.elements
