-- Reads one after the other, and when no more are tried (std::io::Read).
use Rattle.std.specs.Prelude.{◌≡◌, ◌≢◌, ◌-◌, ◌^◌, ◌≤◌, ◌⊎◌, ℕ, List, [], ◌∷◌, ◌++◌, length, Result, Err}
use Rattle.std.specs.IoError.{error_kind}
use Rattle.std.specs.declared.io.Error.{Error}
use Rattle.std.specs.declared.io.ErrorKind.TheVariants.{Interrupted}

-- `reads` says whether a read may give an answer and lead from one state of a reader to another.
module _ {R : Type 0} (reads : R → Result ℕ Error → R → Type 0) where
  -- reads with these answers, one after the other, lead from before to after
  abbrev pub Follows : R → List (Result ℕ Error) → R → Type 0
  Follows before [] after = before ≡ after
  Follows before (answer ∷ answers) after =
      (mid : R) × reads before answer mid × Follows mid answers after

  -- the last read failed, and was not interrupted; or 2^64 - 1 reads were tried
  abbrev pub GivesUp : R → R → Type 0
  GivesUp before after =
      (answers : List (Result ℕ Error)) × Follows before answers after
      × (((front : List (Result ℕ Error)) × (error : Error) × (answers ≡ front ++ Err error ∷ [])
      × (error_kind error ≢ Interrupted)) ⊎ (2 ^ 64 - 1 ≤ length answers))
