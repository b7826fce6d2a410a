use Rattle.std.proofs.Common.{drop}
use Rattle.tclstate.proofs.Reading.{FormalsSoFar}
use Rattle.tclstate.proofs.formals.Formals.read.Given as goal

abbrev pub invariant-loop-word : goal.invariant-loop-word
invariant-loop-word g l = FormalsSoFar l.word-items (drop l.word-index l.word-items) l.list.items
