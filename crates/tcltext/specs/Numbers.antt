-- How a numeral is read from its front: a number of any size, or none (Tcl_GetInt(3)). What a
-- numeral is stands in Numeral.
use Rattle.std.specs.Prelude.{ℕ, ◌+◌, ◌-◌, ◌*◌, ◌^◌, ◌==◌, nat_lt, nat_le, ◌||◌, List, [], ◌∷◌, Bool, false, Option, Some, None, option_map, ℤ, pos, negsuc, neg_ℤ, if◌then◌else◌}
use Rattle.tcltext.specs.Digit.{digit_value, is_digit}
use Rattle.tcltext.specs.White.{skip_white}

-- n, where nothing follows (Tcl_GetInt(3)).
abbrev pub then_white : ℕ → List ℕ → Option ℕ
then_white n [] = Some n
then_white n (c ∷ x) = None

-- n with the digits that follow, and then only white (expr(n), operands; Tcl_GetInt(3)).
abbrev pub digits_behind : ℕ → ℕ → List ℕ → Option ℕ
digits_behind base n [] = Some n
digits_behind base n (c ∷ x) =
    if is_digit base c then digits_behind base (base * n + digit_value c) x
    else then_white n (skip_white (c ∷ x))

-- At least one digit of the base, and then only white (expr(n), operands).
abbrev pub some_digits : ℕ → List ℕ → Option ℕ
some_digits base [] = None
some_digits base (c ∷ x) = if is_digit base c then digits_behind base 0 (c ∷ x) else None

-- What follows a 0: `x`, `o` or `b` and digits, or octal digits, or none (expr(n), operands).
abbrev pub behind_zero : List ℕ → Option ℕ
behind_zero [] = Some 0
behind_zero (c ∷ x) =
    if c == 120 then some_digits 16 x else (if c == 111 then some_digits 8 x else
    (if c == 98 then some_digits 2 x else digits_behind 8 0 (c ∷ x)))

-- A number without a sign, and white (expr(n), operands).
abbrev pub unsigned : List ℕ → Option ℕ
unsigned [] = None
unsigned (c ∷ x) = if c == 48 then behind_zero x else some_digits 10 (c ∷ x)

-- The sign is a minus (expr(n), operands).
abbrev pub is_minus : List ℕ → Bool
is_minus [] = false
is_minus (c ∷ x) = c == 45

-- The text after a sign, or the whole text (expr(n), operands).
abbrev pub behind_sign : List ℕ → List ℕ
behind_sign [] = []
behind_sign (c ∷ x) = if (c == 45) || (c == 43) then x else (c ∷ x)

-- The number that a sign makes of a number without one (expr(n), operands).
abbrev pub with_sign : Bool → ℕ → ℤ
with_sign negative m = if negative then neg_ℤ (pos m) else pos m

-- A number with its sign, and white (expr(n), operands).
abbrev pub signed : List ℕ → Option ℤ
signed x = option_map (with_sign (is_minus x)) (unsigned (behind_sign x))

-- White, and then a number with its sign (Tcl_GetInt(3)).
abbrev pub numeral : List ℕ → Option ℤ
numeral x = signed (skip_white x)

-- 64 bits hold the number (expr(n), operands).
abbrev pub is_in_range : ℤ → Bool
is_in_range (pos n) = nat_le n (2 ^ 63 - 1)
is_in_range (negsuc n) = nat_le n (2 ^ 63 - 1)

-- A number was read, and 64 bits hold it (expr(n), operands).
abbrev pub some_in_range : Option ℤ → Bool
some_in_range None = false
some_in_range (Some n) = is_in_range n

-- The text is a number: a numeral within 64 bits (expr(n), operands). The law number_is_numeral
-- says so by IsNumeral and IsInRange alone.
abbrev pub is_number : List ℕ → Bool
is_number x = some_in_range (numeral x)

-- The number, where it is below 2^64 (this project's own rule).
abbrev pub small : Option ℕ → Option ℕ
small None = None
small (Some n) = if nat_lt n (2 ^ 64) then Some n else None
