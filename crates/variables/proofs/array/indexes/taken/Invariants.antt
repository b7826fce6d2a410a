use Rattle.std.proofs.Common.{drop}
use Rattle.variables.proofs.Taking.{TakenSoFar}
use Rattle.variables.proofs.array.indexes.taken.Given as goal

abbrev pub invariant-loop-text : goal.invariant-loop-text
invariant-loop-text g l =
    TakenSoFar l.pattern.items l.texts (drop l.text-index l.texts) l.found.items
