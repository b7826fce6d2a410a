-- What a loop does from a turn on.
use Rattle.std.specs.Prelude.{ℕ, [], Bool, Option, Some, None, if◌then◌else◌}
use Rattle.state.specs.Prelude.{Course, gives, leaves, stops, inside, Outcome, Gives, Leaves, Stops, Break, LoopTree, ScriptTree, Status}
use Rattle.state.specs.Evaluated.{tested}
use Rattle.plan.specs.Plan.{goes}
use Rattle.state.specs.Dialogue.{tick}
use Rattle.state.specs.Piece.{Loop}
use Rattle.state.specs.Turn.{on_turn}

-- after the script that stands after a turn comes the next turn; break ends the loop, and its
-- value is empty; all else passes, continue too (for(n))
abbrev pub on_step : (Status → Course) → Status → Outcome → Course
on_step next s (Gives value) = next s
on_step next s (Leaves Break value) = gives [] s
on_step next s (Leaves code value) = leaves code value s
on_step next s (Stops stop) = stops stop s

-- after a turn's body runs the script that stands after each turn, if there is one, and then comes
-- the next turn (for(n))
abbrev pub steps : Option ScriptTree → ℕ → (Status → Course) → Status → Course
steps None levels next s = next s
steps (Some step) levels next s = inside levels step s (on_step next)

-- the loop from its next turn on (while(n), for(n))
abbrev pub again : LoopTree → ℕ → Status → Course
again loop levels s = goes (Loop loop levels) s

-- what follows a turn's body (while(n), for(n))
abbrev pub behind_body : LoopTree → ℕ → Status → Outcome → Course
behind_body loop levels = on_turn (steps loop.step levels (again loop levels))

-- where the test holds, the turn takes a tick and runs the body one level deeper; else the loop is
-- over, and its value is empty (while(n), for(n); the tick is this project's own rule)
abbrev pub turned : LoopTree → ℕ → Status → Bool → Course
turned loop levels s holds =
    if holds then tick s (λ t. inside levels loop.body t (behind_body loop levels))
    else gives [] s

-- a loop begins each turn with its test (while(n), for(n))
abbrev pub turns : LoopTree → ℕ → Status → Course
turns loop levels s = tested levels loop.test s (turned loop levels)
