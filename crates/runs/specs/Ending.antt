-- How a run ends.
use Rattle.std.specs.Prelude.{ℕ, ℤ, List}
use Rattle.state.specs.Outcome as stop
use Rattle.state.specs.Outcome.{Stop}

-- how a run ends (this project's own rule; exit(n))
pub data Ending : Type 0 where
  Exit : (status : ℤ) → Ending
  Error : (text : List ℕ) → Ending
  Limit : Ending
  WriterFailed : Ending
  BadAnswer : (number : ℕ) → Ending
  NoMore : Ending

-- a run is over with this end; or its last answer does not fit
pub data Over : Type 0 where
  With : (ending : Ending) → Over
  Unfit : Over

-- a stop as the end of a run
abbrev pub stopped : Stop → Over
stopped (stop.Exit status) = With (Exit status)
stopped stop.Limit = With Limit
stopped stop.WriterFailed = With WriterFailed
stopped stop.BadAnswer = Unfit
stopped stop.NoMore = With NoMore

-- the end after this many answers: an answer that does not fit is the last one, and has this number
abbrev pub numbered : ℕ → Over → Ending
numbered answers (With ending) = ending
numbered answers Unfit = BadAnswer answers
