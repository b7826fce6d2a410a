-- A switch that is being done, as the proof sees it.
use Rattle.std.specs.Prelude.{ℕ, Bool, true, false, List}
use Rattle.nesting.specs.Switch.{Exact, Glob, Mode, chosen, runs_body}
use Rattle.state.specs.Prelude.{Course, Status}

-- how its patterns are compared, which are globs or are not (switch(n))
abbrev pub mode_of : Bool → Mode
mode_of false = Exact
mode_of true = Glob

-- the patterns that are left are tried in turn, and the body of the first that takes the string
-- runs (switch(n))
abbrev pub tries : ℕ → Bool → List ℕ → List (List ℕ) → Status → Course
tries levels globs text arms s = chosen (mode_of globs) text arms s (runs_body levels s)
