use Rattle.std.proofs.Common.{length}
use Rattle.choices.specs.Choice.{IsMet}
use Rattle.choices.proofs.Firsts.{Leads}
use Rattle.choices.proofs.table.Table.first_met.Given as goal

-- no keyword of the pairs so far has come
abbrev pub invariant-loop-pair : goal.invariant-loop-pair
invariant-loop-pair g l = Leads (IsMet l.self.lines l.trigger) l.rest l.pairs

abbrev pub decreases-loop-pair : goal.decreases-loop-pair
decreases-loop-pair g l = length l.rest
