-- Numbers bit by bit, in two's complement.
use Rattle.std.specs.Prelude.{ℕ, zero, suc, ◌+◌, ◌%◌, ◌^◌, ◌==◌, ◌&&◌, ◌||◌, Bool, not, ℤ, pos, negsuc, neg_ℤ, ◌-ℤ◌, if◌then◌else◌}
use Rattle.integers.specs.Division.{rounded_down}

-- a number is odd; -(n + 1) is odd where n is even (expr(n), operators)
abbrev pub is_odd : ℤ → Bool
is_odd (pos n) = n % 2 == 1
is_odd (negsuc n) = n % 2 == 0

-- bit i of a number is set where a / 2^i, rounded down, is odd (expr(n), operators)
abbrev pub bit : ℤ → ℕ → Bool
bit a i = is_odd (rounded_down a (2 ^ i))

-- the worth of bit i: 2^i where it is set, else 0 (expr(n), operators)
abbrev pub worth : (ℕ → Bool) → ℕ → ℕ
worth bits i = if bits i then 2 ^ i else 0

-- the sum of the worths of the bits below bit k (expr(n), operators)
unfoldable pub lowest : ℕ → (ℕ → Bool) → ℕ
lowest zero bits = 0
lowest (suc k) bits = lowest k bits + worth bits k

-- the number that 64 bits stand for, of which the highest counts -2^63. The others together count
-- less than 2^63, so 64 bits hold each such number (expr(n), operators).
abbrev pub of_bits : (ℕ → Bool) → ℤ
of_bits bits = pos (lowest 63 bits) -ℤ pos (worth bits 63)

-- one bit is set, and the other is not (expr(n), operators)
abbrev pub differ : Bool → Bool → Bool
differ p q = if p then not q else q

-- a & b: the bits that are set in both (expr(n), operators)
abbrev pub bits_and : ℤ → ℤ → ℤ
bits_and a b = of_bits (λ i. bit a i && bit b i)

-- a | b: the bits that are set in one or both (expr(n), operators)
abbrev pub bits_or : ℤ → ℤ → ℤ
bits_or a b = of_bits (λ i. bit a i || bit b i)

-- a ^ b: the bits that are set in exactly one (expr(n), operators)
abbrev pub bits_xor : ℤ → ℤ → ℤ
bits_xor a b = of_bits (λ i. differ (bit a i) (bit b i))

-- the number with each bit inverted, which is -n - 1 (expr(n), operators)
abbrev pub complement : ℤ → ℤ
complement n = neg_ℤ n -ℤ pos 1
