-- What join does.
use Rattle.std.specs.Prelude.{ℕ, List, [], ◌∷◌, codes}
use Rattle.acts.specs.Flaw as flaw
use Rattle.tcltext.specs.Joined.{joined}
use Rattle.meanings.specs.Meaning.{Meaning, Gives, Raises, Splits}

-- the elements with a separator between them (join(n))
abbrev pub text_of : List ℕ → List (List ℕ) → Meaning
text_of separator elements = Gives (joined separator elements)

-- join l ?separator? gives the elements of a list as one text, with a blank between them where no
-- separator is named (join(n))
abbrev pub join : List (List ℕ) → Meaning
join (l ∷ []) = Splits l (text_of (codes " "))
join (l ∷ separator ∷ []) = Splits l (text_of separator)
join _ = Raises (flaw.WrongArgs (codes "join"))
