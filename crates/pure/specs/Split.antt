-- What split does.
use Rattle.std.specs.Prelude.{ℕ, List, [], ◌∷◌, map, codes}
use Rattle.std.specs.List.{slice_split}
use Rattle.acts.specs.Flaw as flaw
use Rattle.meanings.specs.Meaning.{Meaning, Gives, Raises}
use Rattle.pure.specs.Trim.{is_among}
use Rattle.tcltext.specs.Canonical.{canonical}

-- the pieces of a text before, between and after those of its bytes that are among these; the
-- empty text has none; where no bytes are named each byte is a piece (split(n))
abbrev pub pieces : List ℕ → List ℕ → List (List ℕ)
pieces bytes [] = []
pieces [] (c ∷ x) = map (λ b. b ∷ []) (c ∷ x)
pieces (b ∷ bytes) (c ∷ x) = slice_split (is_among (b ∷ bytes)) (c ∷ x)

-- split t ?bytes? gives the list of the pieces of a text; where no bytes are named it is cut at
-- blanks, tabs, newlines and carriage returns (split(n))
abbrev pub split : List (List ℕ) → Meaning
split (t ∷ []) = Gives (canonical (pieces (codes " \t\n\r") t))
split (t ∷ bytes ∷ []) = Gives (canonical (pieces bytes t))
split _ = Raises (flaw.WrongArgs (codes "split"))
