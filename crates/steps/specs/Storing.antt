-- A variable is written.
use Rattle.std.specs.Prelude.{List, ℕ, Option, Some, None, Result, Ok, Err}
use Rattle.acts.specs.Flaw as flaw
use Rattle.state.specs.Prelude.{Status}
use Rattle.state.specs.Variables.{flaw_of_trouble, spelled}
use Rattle.steps.specs.Handling.{fails}
use Rattle.steps.specs.Spot.{Spot, Did, Went}
use Rattle.tclstate.specs.Scopes.{Scopes, Trouble, written}

-- goes on after a write, or fails with the error that the variable could not be written (set(n))
abbrev pub on_written : Result Scopes Trouble → List ℕ → Spot → Status → (Status → Did) → Did
on_written (Ok scopes) name spot s next = next (record s { scopes = scopes })
on_written (Err trouble) name spot s next = fails (flaw_of_trouble trouble name) spot s

-- a value is written to the variable that is named, if there is one (set(n))
abbrev pub storing : Option (List ℕ × Option (List ℕ)) → List ℕ → Spot → Status → Did
storing None value spot s = fails flaw.BadVariable spot s
storing (Some n) value spot s =
    on_written (written s.scopes n.0 n.1 value) (spelled n.0 n.1) spot s (λ t. Went spot t)
