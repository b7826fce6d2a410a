-- What is left of a variable whose text is taken out of it, to be written again.
use Rattle.std.specs.Prelude.{◌≡◌, ℕ, List, Option, Result, Ok, Err}
use Rattle.state.specs.Prelude.{Flaw, flaw_of, Raise, Scopes}
use Rattle.acts.specs.declared.raise.Raise.TheVariants as raise
use Rattle.kinds.specs.Variables.{put}
use Rattle.variables.specs.Values.{text_in}

-- a write to the variable gives the same before and after its text was taken; where a write fails,
-- nothing was taken
pub record Rewrites (name : List ℕ) (index : Option (List ℕ)) (old new : Scopes) : Type 0 where
  pub same : (value : List ℕ) → put name index value new ≡ put name index value old
  pub stays : (value : List ℕ) (flaw : Flaw) → put name index value old ≡ Err flaw → new ≡ old

-- the text was taken out of the variable, or the variable is missing and counts as empty; or there
-- is the error that it can't be read
abbrev pub Takes : {A : Type 0} → List ℕ → Option (List ℕ) → Scopes → Result (List ℕ) (Raise A) →
    Scopes → Type 0
Takes name index old (Ok text) new =
    (text_in name index old ≡ Ok text) × Rewrites name index old new
Takes name index old (Err (raise.Fault why)) new =
    (text_in name index old ≡ Err (flaw_of why)) × (new ≡ old)
Takes name index old (Err (raise.NoMemory refusal)) new = Unit {0}
