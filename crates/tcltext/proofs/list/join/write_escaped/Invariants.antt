use Rattle.std.proofs.Common.{◌≡◌, ◌++◌, drop}
use Rattle.tcltext.specs.Canonical.{escaped_bytes}
use Rattle.tcltext.proofs.list.join.write_escaped.Given as goal

abbrev pub invariant-loop-c : goal.invariant-loop-c
invariant-loop-c g l = l.text.items ++ escaped_bytes (drop l.c-index l.element) ≡ l.fn.text.items
    ++ escaped_bytes l.element
