-- The numbers that operands are, and numbers as results.
use Rattle.std.specs.Prelude.{ℕ, List, [], ◌∷◌, Option, Some, None, option_and_then, ℤ, if◌then◌else◌}
use Rattle.std.specs.Fmt.{signed_decimal}
use Rattle.acts.specs.Flaw as flaw
use Rattle.meanings.specs.Meaning.{Meaning, Gives, Raises}
use Rattle.tcltext.specs.Numbers.{numeral, is_in_range}

-- a number that 64 bits hold, or none (expr(n), operands)
abbrev pub held : ℤ → Option ℤ
held n = if is_in_range n then Some n else None

-- the number that a text is: a numeral within 64 bits, or none (expr(n), operands)
unfoldable pub number_of : List ℕ → Option ℤ
number_of text = option_and_then held (numeral text)

-- what follows a number; where there is none, the error names the text that is not a number
abbrev pub follows : Option ℤ → List ℕ → (ℤ → Meaning) → Meaning
follows (Some n) text next = next n
follows None text next = Raises (flaw.NotANumber text)

-- what follows the number that a text is (expr(n), operators)
abbrev pub with_number : List ℕ → (ℤ → Meaning) → Meaning
with_number text next = follows (number_of text) text next

-- what follows the numbers that two texts are, the left one first (expr(n), operators)
abbrev pub with_both : List ℕ → List ℕ → (ℤ → ℤ → Meaning) → Meaning
with_both left right next = with_number left (λ x. with_number right (λ y. next x y))

-- what follows the numbers that texts are, from left to right (mathfunc(n))
abbrev pub with_all : List (List ℕ) → (List ℤ → Meaning) → Meaning
with_all [] next = next []
with_all (text ∷ texts) next =
    with_number text (λ n. with_all texts (λ numbers. next (n ∷ numbers)))

-- a number as a result: its decimal text, if 64 bits hold it, else the error (expr(n))
abbrev pub told : ℤ → Meaning
told n = if is_in_range n then Gives (signed_decimal n) else Raises flaw.OutOfRange
