-- What a number added to a text that is one makes (incr(n)).
use Rattle.std.specs.Prelude.{◌≡◌, ◌<◌, ℕ, List, length, Some, true, ℤ, ◌+ℤ◌, Result, Ok, Err}
use Rattle.std.specs.Fmt.{signed_decimal}
use Rattle.tcltext.specs.Numbers.{numeral, is_in_range}
use Rattle.tclstate.specs.Scopes.{Trouble}

-- The text is a number, and the sum of that and of another is written in decimal; 64 bits hold both
-- (incr(n); expr(n), operands).
pub record IsSum (by : ℤ) (text sum : List ℕ) : Type 0 where
  pub number : ℤ
  pub is : numeral text ≡ Some number
  pub in_range : is_in_range number ≡ true
  pub sum_in_range : is_in_range (number +ℤ by) ≡ true
  pub written : sum ≡ signed_decimal (number +ℤ by)

-- The same of what is read (incr(n)).
abbrev pub HasSum : ℤ → List ℕ → Result (List ℕ) Trouble → Type 0
HasSum by sum (Ok text) = IsSum by text sum
HasSum by sum (Err trouble) = ⊥

-- No sum lies in place: where there is one, it has more than 14 bytes (incr(n)).
abbrev pub NoSumInPlace : ℤ → Result (List ℕ) Trouble → Type 0
NoSumInPlace by r = (sum : List ℕ) → HasSum by sum r → 14 < length sum
