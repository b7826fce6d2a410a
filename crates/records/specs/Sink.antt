-- What sinks get: bytes that are put into them piece by piece (this project's own rules).
use Rattle.std.specs.Prelude.{◌≡◌, ◌≢◌, ℕ, ◌==◌, ◌&&◌, ◌||◌, nat_lt, Bool, List, [], ◌∷◌, ◌++◌, length, MatchBool}
use Rattle.std.specs.List.{concat}

-- a sink has failed from the first time on that it took nothing of a text that is not empty
abbrev pub fails_at : Bool → List ℕ → ℕ → Bool
fails_at failed bytes taken = failed || (taken == 0 && nat_lt 0 (length bytes))

-- `adds` says whether a put may lead from one state of a sink to another and add these bytes.
module _ {S : Type 0} (adds : S → List ℕ → S → Type 0) where
  -- puts that add these pieces, one after the other, lead from before to after
  abbrev pub Puts : S → List (List ℕ) → S → Type 0
  Puts before [] after = before ≡ after
  Puts before (piece ∷ pieces) after = (mid : S) × adds before piece mid × Puts mid pieces after

  -- what a sink gets are the joined pieces of a chain of puts
  abbrev pub Gets : S → List ℕ → S → Type 0
  Gets before bytes after =
      (pieces : List (List ℕ)) × Puts before pieces after × (bytes ≡ concat pieces)

  -- a sink gets a beginning of the text, and not all of it
  abbrev pub GetsPart : S → List ℕ → S → Type 0
  GetsPart before text after =
      (front rest : List ℕ) × Gets before front after × (text ≡ front ++ rest) × (rest ≢ [])

-- `adds` as above; `failed` says whether a sink has failed.
module _ {S : Type 0} (adds : S → List ℕ → S → Type 0) (failed : S → Bool) where
  -- a sink gets nothing where it had failed, a part of the text where it fails now, or all of it
  abbrev pub Takes : S → List ℕ → S → Type 0
  Takes before text after =
      MatchBool (failed before) (before ≡ after)
      (MatchBool (failed after) (GetsPart adds before text after) (Gets adds before text after))
