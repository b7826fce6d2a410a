-- What a piece may use up, so that none goes on for ever (this project's own rule).
use Rattle.std.specs.Prelude.{ℕ, ◌+◌, ◌*◌}
use Rattle.state.specs.Outcome.{Outcome, Leaves, Again, AgainRunning}
use Rattle.state.specs.Piece.{Piece, Script, One, Loop, Turn}
use Rattle.state.specs.Status.{Status}

-- an outcome of exp_continue counts as one: the tick of that command is already spent, and a turn
-- of expect may begin by it
abbrev pub again_of : Outcome → ℕ
again_of (Leaves Again value) = 1
again_of (Leaves AgainRunning value) = 1
again_of _ = 0

-- what may be used up after a piece: two for each tick that is left, and one for exp_continue
abbrev pub left_after : Status → Outcome → ℕ
left_after s o = 2 * s.left + again_of o

-- what a piece may use up: two for each tick; loops and turns have one more, for the scripts in
-- them
abbrev pub budget : Piece → Status → ℕ
budget (Script tree levels) s = 2 * s.left
budget (One words levels) s = 2 * s.left
budget (Loop loop levels) s = 2 * s.left + 1
budget (Turn turn levels) s = 2 * s.left + 1
