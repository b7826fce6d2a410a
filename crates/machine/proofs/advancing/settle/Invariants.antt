use Rattle.std.proofs.Common.{◌≡◌, ◌+◌, []}
use Rattle.machine.specs.Below.{ComesFrom, rest_of}
use Rattle.state.specs.Budget.{again_of}
use Rattle.state.specs.Prelude.{outcome_of}
use Rattle.machine.proofs.advancing.settle.Given as goal

abbrev pub invariant-commands : goal.invariant-commands
invariant-commands g l = record {
  comes : ComesFrom l.fn.running l.fn.state (outcome_of l.fn.outcome) l.running l.state
      (outcome_of l.outcome);
  left : l.left ≡ l.fn.state.left;
  same : l.state.left ≡ l.fn.state.left;
  watched : g.T.Watch.told l.fn.watch [] l.watch;
}

-- without a tick a command begins further on in its code, or by words that waited
abbrev pub decreases-commands : goal.decreases-commands
decreases-commands g l = again_of (outcome_of l.outcome) + rest_of l.running
