use Rattle.std.proofs.Common.{◌≡◌, ◌++◌, drop}
use Rattle.std.specs.List.{concat}
use Rattle.variables.proofs.append.push_all.Given as goal

abbrev pub invariant-loop-text : goal.invariant-loop-text
invariant-loop-text g l =
    l.whole.items ++ concat (drop l.text-index l.texts) ≡ l.fn.whole.items ++ concat l.texts
