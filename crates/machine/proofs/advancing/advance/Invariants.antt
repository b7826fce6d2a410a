use Rattle.std.proofs.Common.{[]}
use Rattle.machine.specs.Below.{ComesFrom}
use Rattle.state.specs.Prelude.{outcome_of}
use Rattle.machine.proofs.advancing.advance.Given as goal

abbrev pub invariant-ticks : goal.invariant-ticks
invariant-ticks g l = record {
  comes : ComesFrom l.fn.running l.fn.state (outcome_of l.fn.outcome) l.running l.state
      (outcome_of l.outcome);
  watched : g.T.Watch.told l.fn.watch [] l.watch;
}

-- each time fewer ticks are left
abbrev pub decreases-ticks : goal.decreases-ticks
decreases-ticks g l = l.state.left
