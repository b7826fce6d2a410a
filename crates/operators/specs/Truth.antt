-- Which texts are truth values.
use Rattle.std.specs.Prelude.{ℕ, List, codes, Bool, true, false, not, ◌||◌, Option, Some, None, ℤ, pos, Result, Ok, Err, if◌then◌else◌}
use Rattle.std.specs.Ordering.{int_eq}
use Rattle.std.specs.Str.{bytes_eq}
use Rattle.acts.specs.Flaw.{Flaw}
use Rattle.acts.specs.Flaw as flaw
use Rattle.operators.specs.Number.{number_of}

-- the words that are true (expr(n), operands)
abbrev pub is_true : List ℕ → Bool
is_true word =
    bytes_eq word (codes "true") || (bytes_eq word (codes "yes") || bytes_eq word (codes "on"))

-- the words that are false (expr(n), operands)
abbrev pub is_false : List ℕ → Bool
is_false word =
    bytes_eq word (codes "false") || (bytes_eq word (codes "no") || bytes_eq word (codes "off"))

-- the truth value of a word (expr(n), operands)
abbrev pub of_word : List ℕ → Result Bool Flaw
of_word word =
    if is_true word then Ok true
    else if is_false word then Ok false
    else Err (flaw.NotATruth word)

-- a number is true where it is not 0; a text that is not a number is taken as a word (expr(n),
-- operands)
abbrev pub of_number : Option ℤ → List ℕ → Result Bool Flaw
of_number (Some n) text = Ok (not (int_eq n (pos 0)))
of_number None text = of_word text

-- the truth value of a text, or the error that it has none (expr(n), operands)
abbrev pub truth_of : List ℕ → Result Bool Flaw
truth_of text = of_number (number_of text) text
