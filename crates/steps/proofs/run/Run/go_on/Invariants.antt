use Rattle.std.proofs.Common.{◌≡◌, ℕ, ◌+◌, ◌*◌, ◌<◌, ◌≤◌, ◌⊎◌, true}
use Rattle.code.specs.Doing.{are_still}
use Rattle.runs.specs.Ending.{Over}
use Rattle.state.specs.Budget.{again_of}
use Rattle.state.specs.Prelude.{Dialogue, FitsState, Outcome, Status, outcome_of}
use Rattle.steps.specs.Run.{Awaits, IsFresh, IsValue, most_commands, places_left}
use Rattle.steps.proofs.AtOnce.{Stood}
use Rattle.steps.proofs.run.Run.go_on.Given as goal

abbrev pub invariant-commands : goal.invariant-commands
invariant-commands g l = record {
  stands : (last next : Status → Outcome → Dialogue Over) (s : Status) →
      FitsState l.fn.state s → Awaits last l.fn.self next →
      Stood last l.self l.state (outcome_of l.outcome) (next s (outcome_of l.fn.outcome));
  left : l.state.left ≤ l.fn.state.left;
  fewer : most_commands l.self l.state.left ≤ most_commands l.fn.self l.fn.state.left;
  onward : l.state.left ≡ l.fn.state.left → places_left l.self ≤ places_left l.fn.self;
  first : (said : ℕ) → IsFresh said l.fn.self → IsValue l.fn.outcome → (l.state.left < l.fn.state.left)
      ⊎ ((l.self ≡ l.fn.self) × (l.outcome ≡ l.fn.outcome) × (l.state.left ≡ l.fn.state.left));
  code : l.self.code.value.items ≡ l.fn.self.code.value.items;
  still : are_still l.fn.self.code.value.items ≡ true →
      again_of (outcome_of l.outcome) ≤ again_of (outcome_of l.fn.outcome);
  again : l.state.left ≡ l.fn.state.left →
      again_of (outcome_of l.outcome) + 2 * places_left l.self
      ≤ again_of (outcome_of l.fn.outcome) + 2 * places_left l.fn.self;
}

-- each command takes a tick, or stands further on than the one before
abbrev pub decreases-commands : goal.decreases-commands
decreases-commands g l = most_commands l.self l.state.left
