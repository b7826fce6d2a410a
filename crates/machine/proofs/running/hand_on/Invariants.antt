use Rattle.std.proofs.Common.{◌≡◌, ◌+◌, ◌≤◌, []}
use Rattle.machine.specs.Below.{ComesFrom, depth, rest_of}
use Rattle.state.specs.Budget.{again_of}
use Rattle.state.specs.Prelude.{outcome_of}
use Rattle.machine.proofs.running.hand_on.Given as goal

abbrev pub invariant-parts : goal.invariant-parts
invariant-parts g l = record {
  comes : ComesFrom l.fn.running l.fn.state (outcome_of l.fn.outcome) l.running l.state
      (outcome_of l.outcome);
  left : l.left ≡ l.fn.state.left;
  same : l.state.left ≡ l.fn.state.left;
  less : again_of (outcome_of l.outcome) + rest_of l.running
      ≤ again_of (outcome_of l.fn.outcome) + rest_of l.fn.running;
  watched : g.T.Watch.told l.fn.watch [] l.watch;
}

-- each part that is over leaves less to hand an outcome to
abbrev pub decreases-parts : goal.decreases-parts
decreases-parts g l = depth l.running
