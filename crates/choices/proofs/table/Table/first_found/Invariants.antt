use Rattle.std.proofs.Common.{◌≡◌, length}
use Rattle.choices.specs.Choice.{IsFoundFor}
use Rattle.choices.proofs.Firsts.{Leads}
use Rattle.choices.proofs.table.Table.first_found.Given as goal

-- the table is as it was, and no pattern of the pairs so far is found
abbrev pub invariant-loop-pair : goal.invariant-loop-pair
invariant-loop-pair g l = record {
  same : l.self ≡ l.initial.self;
  leads : Leads (IsFoundFor l.initial.self.lines l.trigger) l.rest l.pairs;
}

abbrev pub decreases-loop-pair : goal.decreases-loop-pair
decreases-loop-pair g l = length l.rest
