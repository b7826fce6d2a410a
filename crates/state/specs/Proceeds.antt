-- What a course that runs scripts and asks for acts keeps to (this project's own rule).
use Rattle.std.specs.Prelude.{ℕ, ◌+◌, ◌-◌, ◌<◌, ◌≤◌}
use Rattle.acts.specs.Deed.{Reply}
use Rattle.plan.specs.Plan.{Ends, Asks, Reads, Calls}
use Rattle.state.specs.Behaves.{worth}
use Rattle.state.specs.Budget.{budget, left_after}
use Rattle.state.specs.Cut.{CutsOff, IsCutOff, PassesStops}
use Rattle.state.specs.Dialogue.{Course}
use Rattle.state.specs.Outcome.{Outcome}
use Rattle.state.specs.Piece.{Tree, IsTree}
use Rattle.state.specs.Rows.{Holds}
use Rattle.state.specs.Status.{Status}

-- the course leaves at most the given budget, pays for its acts out of what it had and leaves a
-- state that is worth no more than the rest of that; each of its waits holds, and an answer that
-- cuts it off ends it; each piece that it calls has less than the course may leave, and the stops
-- of that piece are passed on; had a piece left more than its budget, the rest of the course might
-- leave as much more (which no piece does)
abbrev pub Proceeds : ℕ → ℕ → Course → Type 0
Proceeds most had (Ends left) = (left_after left.0 left.1 ≤ most) × (worth left.0 ≤ had)
Proceeds most had (Asks deed next) =
    (1 ≤ had) × Holds deed × ((reply : Reply) → Proceeds most (had - 1) (next reply))
    × ((reply : Reply) → CutsOff deed reply → IsCutOff (next reply))
Proceeds most had (Reads text next) =
    (tree : Tree text) → IsTree text tree → Proceeds most had (next tree)
Proceeds most had (Calls piece state next) =
    (budget piece state < most) × (worth state ≤ had) ×
    ((left : Status) (outcome : Outcome) →
    Proceeds (most + (left_after left outcome - budget piece state))
    (worth left + (had - worth state)) (next left outcome))
    × PassesStops next
