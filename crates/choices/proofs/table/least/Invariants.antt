use Rattle.std.proofs.Common.{◌≡◌, drop}
use Rattle.choices.specs.Lines.{least_of}
use Rattle.choices.proofs.table.least.Given as goal

-- the least id so far, and the remaining entries
abbrev pub invariant-loop-entry : goal.invariant-loop-entry
invariant-loop-entry g l =
    least_of l.least (drop l.entry-index l.entries) ≡ least_of l.fn.first l.entries
