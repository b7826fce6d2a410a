-- How numbers are divided.
use Rattle.std.specs.Prelude.{ℕ, suc, ◌/◌, ℤ, pos, negsuc, neg_ℤ, ◌-ℤ◌, ◌*ℤ◌}

-- a / b rounded down, for b above 0: the greatest q with q * b <= a. Here negsuc n is -(n + 1)
-- (expr(n), operators). The law quotient_rounds_down says so.
abbrev pub rounded_down : ℤ → ℕ → ℤ
rounded_down (pos n) b = pos (n / b)
rounded_down (negsuc n) b = negsuc (n / b)

-- a / b rounded down; where b is below 0, the signs of both are changed first (expr(n), operators)
abbrev pub quotient : ℤ → ℤ → ℤ
quotient a (pos b) = rounded_down a b
quotient a (negsuc b) = rounded_down (neg_ℤ a) (suc b)

-- what is left of a after b times the quotient is taken away (expr(n), operators)
abbrev pub remainder : ℤ → ℤ → ℤ
remainder a b = a -ℤ b *ℤ quotient a b
