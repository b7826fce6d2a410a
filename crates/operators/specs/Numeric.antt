-- Results that are numbers.
use Rattle.std.specs.Prelude.{◌≡◌, ℤ, Some}
use Rattle.std.specs.Fmt.{signed_decimal}
use Rattle.meanings.specs.Meaning.{Meaning, Gives, Raises, Splits, Matches}
use Rattle.operators.specs.Number.{number_of}

-- a text is given whose number is this one (expr(n), operands)
abbrev pub MeansNumber : Meaning → ℤ → Type 0
MeansNumber (Gives text) n = number_of text ≡ Some n
MeansNumber (Raises flaw) n = ⊥
MeansNumber (Splits text next) n = ⊥
MeansNumber (Matches pattern text next) n = ⊥

-- the decimal text of this number is given (expr(n))
abbrev pub GivesNumber : Meaning → ℤ → Type 0
GivesNumber meaning n = meaning ≡ Gives (signed_decimal n)
