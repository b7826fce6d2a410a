-- What bounds a run.
use Rattle.std.specs.Prelude.{ℕ, ◌+◌, ◌*◌, List, ◌++◌}
use Rattle.acts.specs.History.{History}
use Rattle.runs.specs.Ending.{Ending}
use Rattle.runs.specs.Run.{Run}

-- the greatest number of acts of a run: four for each tick, and one that reports an uncaught error
abbrev pub most_acts : ℕ → ℕ
most_acts limit = 4 * limit + 1

-- some run begins with these acts and answers
pub record BeginsRun (text : List ℕ) (args : List (List ℕ)) (limit : ℕ) (h : History) : Type 0 where
  pub rest : History
  pub ending : Ending
  pub run : Run text args limit (h ++ rest) ending
