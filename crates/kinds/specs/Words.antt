-- What commands ask about their words: which number a word is.
use Rattle.std.specs.Prelude.{ℕ, ℤ, List, Option, Some, None, Result, Ok, Err}
use Rattle.acts.specs.Flaw.{Flaw}
use Rattle.acts.specs.Flaw as flaw
use Rattle.state.specs.Variables.{whole_of}

-- the number of a text, or the error that the text is none
abbrev pub number_said : Option ℤ → List ℕ → Result ℤ Flaw
number_said (Some n) text = Ok n
number_said None text = Err (flaw.NotANumber text)

-- the whole number within 64 bits that a text is (expr(n), operands)
abbrev pub number : List ℕ → Result ℤ Flaw
number text = number_said (whole_of text) text
