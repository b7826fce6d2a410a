-- The words of a call, as the system gives them.
use Rattle.std.specs.Prelude.{ℕ, ◌+◌, List, [], ◌∷◌, Option, Some, None, Result, Ok, Err, take}
use Rattle.std.specs.declared.env.FillError.{FillError}
use Rattle.std.specs.declared.env.FillError.TheVariants.{NotPresent, TooLong}

-- `gives` says what the system may answer where the argument at a place is asked for: its text, or
-- that there is none (execve(2)).
module _ (gives : ℕ → Option (List ℕ) → Type 0) where
  -- an answer that fills a room is such an answer; where the room is too small, nothing is said
  abbrev pub IsGiven : ℕ → Result ℕ FillError → (room : List ℕ) → Type 0
  IsGiven place (Ok size) room = gives place (Some (take size room))
  IsGiven place (Err NotPresent) room = gives place None
  IsGiven place (Err TooLong) room = Unit {0}

  -- these are the arguments from a place on: one at each place, and none after them
  abbrev pub AreGiven : ℕ → List (List ℕ) → Type 0
  AreGiven place [] = gives place None
  AreGiven place (word ∷ words) = gives place (Some word) × AreGiven (place + 1) words
