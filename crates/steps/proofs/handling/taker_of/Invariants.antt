use Rattle.std.proofs.Common.{◌≡◌, List, ℕ, length}
use Rattle.state.specs.Prelude.{Status}
use Rattle.state.specs.View.{code_of}
use Rattle.steps.specs.Handling.{handled}
use Rattle.steps.specs.View.{spot_of}
use Rattle.steps.proofs.handling.taker_of.Given as goal

-- the handlers that are left do with the outcome what all of them do, at the same place
abbrev pub invariant-handlers : goal.invariant-handlers
invariant-handlers g l = (l.spot.place ≡ l.fn.spot.place) × ((value : List ℕ) (s : Status) →
    handled (spot_of l.spot).handlers (code_of l.code) value (spot_of l.spot) s
    ≡ handled (spot_of l.fn.spot).handlers (code_of l.fn.code) value (spot_of l.fn.spot) s)

abbrev pub decreases-handlers : goal.decreases-handlers
decreases-handlers g l = length l.spot.handlers.items
