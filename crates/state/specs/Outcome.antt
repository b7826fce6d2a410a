-- How a part of a run ends.
use Rattle.std.specs.Prelude.{ℕ, ℤ, List}

-- the codes other than ok (Tcl(n), return codes); the last two are those of exp_continue, by which
-- the timer starts anew or runs on (expect(1), exp_continue)
pub data Code : Type 0 where
  Error : Code
  Return : Code
  Break : Code
  Continue : Code
  Again : Code
  AgainRunning : Code

-- what ends the whole run (this project's own rule; exit(n)); an answer that does not fit its act
-- is the last one, so that its number is the count of all answers
pub data Stop : Type 0 where
  Exit : (status : ℤ) → Stop
  Limit : Stop
  WriterFailed : Stop
  BadAnswer : Stop
  NoMore : Stop

-- a part ends with a value, with another code and a value, or with a stop (Tcl(n), return codes)
pub data Outcome : Type 0 where
  Gives : (value : List ℕ) → Outcome
  Leaves : (code : Code) (value : List ℕ) → Outcome
  Stops : (stop : Stop) → Outcome
