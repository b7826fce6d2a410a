-- Digits of the bases from 2 to 16.
use Rattle.std.specs.Prelude.{ℕ, ◌-◌, nat_le, nat_lt, ◌&&◌, Bool, if◌then◌else◌}

-- The value of a digit, in either case; 16 for a byte that is no digit (expr(n), operands).
abbrev pub digit_value : ℕ → ℕ
digit_value c =
    if nat_le 48 c && nat_le c 57 then c - 48 else
    (if nat_le 97 c && nat_le c 102 then c - 87 else
    (if nat_le 65 c && nat_le c 70 then c - 55 else 16))

-- A byte is a digit of a base (expr(n), operands).
abbrev pub is_digit : ℕ → ℕ → Bool
is_digit base c = nat_lt (digit_value c) base
