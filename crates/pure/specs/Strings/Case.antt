-- What string tolower and string toupper do.
use Rattle.std.specs.Prelude.{ℕ, List, [], ◌∷◌, map, codes}
use Rattle.std.specs.Char.{to_ascii_lowercase, to_ascii_uppercase}
use Rattle.acts.specs.Flaw as flaw
use Rattle.meanings.specs.Meaning.{Meaning, Gives, Raises}

-- string tolower s gives a string with its ASCII letters in lower case (string(n), tolower)
abbrev pub tolower : List (List ℕ) → Meaning
tolower (s ∷ []) = Gives (map to_ascii_lowercase s)
tolower _ = Raises (flaw.WrongArgs (codes "string"))

-- string toupper s gives a string with its ASCII letters in upper case (string(n), toupper)
abbrev pub toupper : List (List ℕ) → Meaning
toupper (s ∷ []) = Gives (map to_ascii_uppercase s)
toupper _ = Raises (flaw.WrongArgs (codes "string"))
