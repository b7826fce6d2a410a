-- What string length does.
use Rattle.std.specs.Prelude.{ℕ, List, [], ◌∷◌, codes, decimal}
use Rattle.std.specs.Prelude as std
use Rattle.acts.specs.Flaw as flaw
use Rattle.meanings.specs.Meaning.{Meaning, Gives, Raises}

-- string length s gives the number of the bytes of a string (string(n), length)
abbrev pub length : List (List ℕ) → Meaning
length (s ∷ []) = Gives (decimal (std.length s))
length _ = Raises (flaw.WrongArgs (codes "string"))
