-- Writes that are tried again as long as they are interrupted (std::io::Write).
use Rattle.std.specs.Prelude.{◌≡◌, ◌≢◌, ◌-◌, ◌^◌, ℕ, List, [], ◌∷◌, length, Result, Ok, Err, ◌⊎◌}
use Rattle.std.specs.IoError.{error_kind}
use Rattle.std.specs.declared.io.Error.{Error}
use Rattle.std.specs.declared.io.ErrorKind.TheVariants.{Interrupted}

-- `writes` says whether a write of a text may give an answer and lead from one state to another.
module _ {W : Type 0} (writes : W → List ℕ → Result ℕ Error → W → Type 0) where
  -- writes of the text that these errors interrupted, one after the other
  abbrev pub AreInterrupted : List Error → W → List ℕ → W → Type 0
  AreInterrupted [] before text after = before ≡ after
  AreInterrupted (error ∷ errors) before text after =
      (mid : W) × writes before text (Err error) mid × (error_kind error ≡ Interrupted)
      × AreInterrupted errors mid text after

  -- a write that is not interrupted takes `taken` bytes, none where it fails
  abbrev pub TakesOnce : W → List ℕ → ℕ → W → Type 0
  TakesOnce before text taken after =
      writes before text (Ok taken) after
      ⊎ ((error : Error) × writes before text (Err error) after
      × (error_kind error ≢ Interrupted) × (taken ≡ 0))

  -- a write that is tried again as long as it is interrupted, 2^64 - 1 times at most
  abbrev pub Tries : W → List ℕ → ℕ → W → Type 0
  Tries before text taken after =
      (errors : List Error) × (mid : W) × AreInterrupted errors before text mid
      × (TakesOnce mid text taken after
      ⊎ ((length errors ≡ 2 ^ 64 - 1) × (after ≡ mid) × (taken ≡ 0)))
