use Rattle.std.proofs.Common.{◌≡◌, ◌++◌, drop}
use Rattle.tcltext.proofs.kept_elements.push_all.Given as goal

abbrev pub invariant-loop-value : goal.invariant-loop-value
invariant-loop-value g l =
    l.items.items ++ drop l.value-index l.more ≡ l.fn.items.items ++ l.more
