-- What a command that runs no script keeps to (this project's own rule).
use Rattle.std.specs.Prelude.{ℕ, ◌+◌, ◌-◌, ◌*◌, ◌≤◌, length, Bool, true, false}
use Rattle.acts.specs.Deed.{Reply}
use Rattle.plan.specs.Plan.{Ends, Asks, Reads, Calls}
use Rattle.state.specs.Cut.{CutsOff, IsCutOff}
use Rattle.state.specs.Dialogue.{Course}
use Rattle.state.specs.Piece.{Tree, IsTree}
use Rattle.state.specs.Rows.{Holds}
use Rattle.choices.specs.Peers.{opened}
use Rattle.state.specs.Status.{Status}

-- an open log is closed by one act
abbrev pub closing_of_log : Bool → ℕ
closing_of_log true = 1
closing_of_log false = 0

-- the acts that a state can still pay for: four for each tick, which are those of a program that is
-- started (its echo on standard output and in the log, the start, the close), and one to close each
-- id and the log
abbrev pub worth : Status → ℕ
worth s = 4 * s.left + length (opened s.ids.peers) + closing_of_log s.log.logging

-- the course of a command behaves: it runs no script, leaves at most the given number of ticks,
-- pays for its acts out of what it had and leaves a state that is worth no more than the rest of
-- that; each of its waits holds, and an answer that cuts the course off ends it
abbrev pub Behaves : ℕ → ℕ → Course → Type 0
Behaves ticks had (Ends left) = (left.0.left ≤ ticks) × (worth left.0 ≤ had)
Behaves ticks had (Asks deed next) =
    (1 ≤ had) × Holds deed × ((reply : Reply) → Behaves ticks (had - 1) (next reply))
    × ((reply : Reply) → CutsOff deed reply → IsCutOff (next reply))
Behaves ticks had (Reads text next) =
    (tree : Tree text) → IsTree text tree → Behaves ticks had (next tree)
Behaves ticks had (Calls piece state next) = ⊥
