-- The values of hexadecimal digits, and the marks of bytes that are digits.
use Rattle.std.specs.Prelude.{nat_le, nat_lt, ℕ, Bool}

-- a number is the value of a digit
abbrev pub is_value : ℕ → Bool
is_value n = nat_lt n 16

-- a mark: one of the last ten numbers that a byte holds, as many as there are numerals
abbrev pub is_mark : ℕ → Bool
is_mark n = nat_le 246 n
