-- What llength does.
use Rattle.std.specs.Prelude.{ℕ, List, [], ◌∷◌, length, codes, decimal}
use Rattle.acts.specs.Flaw as flaw
use Rattle.meanings.specs.Meaning.{Meaning, Gives, Raises, Splits}

-- the number of the elements (llength(n))
abbrev pub count : List (List ℕ) → Meaning
count elements = Gives (decimal (length elements))

-- llength l gives the number of the elements of a list (llength(n))
abbrev pub llength : List (List ℕ) → Meaning
llength (l ∷ []) = Splits l count
llength _ = Raises (flaw.WrongArgs (codes "llength"))
