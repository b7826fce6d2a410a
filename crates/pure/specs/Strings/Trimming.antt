-- What string trim, string trimleft and string trimright do.
use Rattle.std.specs.Prelude.{ℕ, List, [], ◌∷◌, codes}
use Rattle.acts.specs.Flaw as flaw
use Rattle.meanings.specs.Meaning.{Meaning, Gives, Raises}
use Rattle.pure.specs.Trim.{white}

-- string trim s ?bytes? at the ends that the side names; where no bytes are named, white space and
-- the null byte are trimmed (string(n), trim)
abbrev pub trimmed : (List ℕ → List ℕ → List ℕ) → List (List ℕ) → Meaning
trimmed side (s ∷ []) = Gives (side (0 ∷ white) s)
trimmed side (s ∷ bytes ∷ []) = Gives (side bytes s)
trimmed side _ = Raises (flaw.WrongArgs (codes "string"))
