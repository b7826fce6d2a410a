use Rattle.std.proofs.Common.{◌≡◌, ℕ, ◌+◌, ◌-◌, ◌*◌, ◌<◌, ◌≤◌, ◌⊎◌, [], length}
use Rattle.state.specs.Prelude.{Status}
use Rattle.steps.specs.Does.{Arrives}
use Rattle.steps.specs.Run.{IsQuiet}
use Rattle.steps.specs.Spot.{Went}
use Rattle.steps.specs.View.{spot_of, with_parts}
use Rattle.steps.proofs.advancing.advance.Given as goal

-- some instructions came to where the run is, which is no way back without a tick; where one is to
-- be taken before a command begins, it was taken, or is to be still
abbrev pub invariant-steps : goal.invariant-steps
invariant-steps g l =
    ((s : Status) →
    Arrives l.code (spot_of l.fn.spot) (with_parts l.fn.scopes l.fn.procs l.fn.left s)
    (Went (spot_of l.spot) (with_parts l.scopes l.fn.procs l.left s))) ×
    (l.left ≤ l.fn.left) × (l.left ≡ l.fn.left → l.fn.spot.place ≤ l.spot.place) ×
    ((said : ℕ) → IsQuiet said l.code l.fn.spot.place → (spot_of l.fn.spot).handlers ≡ [] →
    (l.left < l.fn.left) ⊎ (IsQuiet said l.code l.spot.place × ((spot_of l.spot).handlers ≡ [])
    × (l.left ≡ l.fn.left))) ×
    (length l.code ≤ l.fn.spot.place → l.spot ≡ l.fn.spot)

abbrev pub decreases-steps : goal.decreases-steps
decreases-steps g l =
    l.left * (length l.code + 1) + (length l.code - l.spot.place)
