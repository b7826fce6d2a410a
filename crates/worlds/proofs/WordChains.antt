-- The words of a call, one after the other.
use Rattle.std.proofs.Common.{◌≡◌, ℕ, List, [], ◌++◌, Option, None, Vec, subst, append-nil}
use Rattle.arguments.specs.Arguments.{texts}
use Rattle.worlds.specs.Words.{AreGiven}

module _ {A : Type 0} (gives : ℕ → Option (List ℕ) → Type 0) where
  -- the words before a place, and behind them those from it on, are all words
  abbrev pub SoFar : ℕ → List (Vec ℕ A) → Type 0
  SoFar place words =
      (more : List (List ℕ)) → AreGiven gives place more → AreGiven gives 1 (texts words ++ more)

  -- where there is none at a place, those before it are all words
  pub ends : (place : ℕ) (words : List (Vec ℕ A)) → SoFar place words → gives place None →
      AreGiven gives 1 (texts words)
  ends place words before none =
      subst (AreGiven gives 1) (append-nil (texts words)) (before [] none)
