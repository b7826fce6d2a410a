use Rattle.std.proofs.Common.{drop}
use Rattle.code.proofs.Foreach.{AssignsLeft}
use Rattle.code.proofs.each.emit_assigns.Given as goal

abbrev pub invariant-loop-name : goal.invariant-loop-name
invariant-loop-name g l =
    AssignsLeft l.fn.code.items l.code.items (drop l.name-index l.names) l.names
