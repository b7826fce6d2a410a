-- What stands at the beginning and at the end of a formula's evaluation.
use Rattle.std.specs.Prelude.{ℕ, List, Option, Some, None, ℤ}
use Rattle.std.specs.Fmt.{signed_decimal}
use Rattle.acts.specs.Flaw as flaw
use Rattle.meanings.specs.Meaning.{Meaning, Gives, Raises}
use Rattle.operators.specs.Number.{number_of}

-- a spelling is kept as it is, if it has a number within 64 bits (expr(n), operands)
abbrev pub spelled : Option ℤ → List ℕ → Meaning
spelled (Some n) spelling = Gives spelling
spelled None spelling = Raises flaw.OutOfRange

-- a numeral that a formula writes (expr(n), operands)
abbrev pub written : List ℕ → Meaning
written spelling = spelled (number_of spelling) spelling

-- a number in decimal, or the text (expr(n))
abbrev pub in_decimal : Option ℤ → List ℕ → List ℕ
in_decimal (Some n) text = signed_decimal n
in_decimal None text = text

-- a formula's value: where it is a number, its decimal text, else itself (expr(n))
abbrev pub result : List ℕ → List ℕ
result value = in_decimal (number_of value) value
