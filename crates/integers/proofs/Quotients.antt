-- Quotients that are rounded down, and the remainders that they leave.
use Rattle.std.proofs.Common.{◌≡◌, ◌≢◌, ℕ, zero, suc, ◌+◌, ◌*◌, ◌/◌, ◌%◌, ◌<◌, ℤ, pos, negsuc, neg_ℤ, ◌+ℤ◌, ◌*ℤ◌, ◌≤ℤ◌, ◌<ℤ◌, refl, ap, ◌∙◌, arith}
use Rattle.std.proofs.lemmas.Int.{ints}
use Rattle.std.proofs.lemmas.Nat.{le-div, div_below}
use native.Mathlib.Nat.{mul-suc, suc-mul, mul_comm}
use Rattle.integers.specs.Division.{rounded_down, quotient, remainder}

-- what is left of n after the quotient
splits : (n b : ℕ) → 0 < b → (b * (n / b) + n % b ≡ n) × (n % b < b)
splits n b some = (omega arith, omega arith)

-- one more than a quotient, times the divisor
one_more : (b q : ℕ) → (b * suc q ≡ b * q + b) × (suc q * b ≡ b * q + b)
one_more b q = (mul-suc b q, suc-mul q b ∙ ap (λ p. p + b) (mul_comm q b))

-- the quotient is not above the dividend
pub below : (a : ℤ) (b : ℕ) → 0 < b → (quotient a (pos b) *ℤ pos b) ≤ℤ a
below (pos n) b some =
    let s = splits n b some in omega (arith, ints, mul_comm (n / b) b)
below (negsuc n) b some =
    let s = splits n b some in
    let m = one_more b (n / b) in
    omega (arith, ints)

-- a number that, times the divisor, is not above the dividend is not above the quotient
pub greatest : (a q : ℤ) (b : ℕ) → 0 < b → (q *ℤ pos b) ≤ℤ a → q ≤ℤ quotient a (pos b)
greatest (pos n) (pos m) b some le =
    let most = le-div m n b some (omega (arith, ints)) in omega (arith, ints)
greatest (pos n) (negsuc m) b some le = omega (arith, ints)
greatest (negsuc n) (pos m) b some le = absurd (omega (arith, ints))
greatest (negsuc n) (negsuc m) b some le =
    let least = div_below n b (suc m) some (omega (arith, ints)) in omega (arith, ints)

neg_twice : (a : ℤ) → neg_ℤ (neg_ℤ a) ≡ a
neg_twice (pos zero) = refl
neg_twice (pos (suc n)) = refl
neg_twice (negsuc n) = refl

-- the quotient stays the same when both signs are changed
pub turned : (a b : ℤ) → b ≢ pos 0 → quotient (neg_ℤ a) (neg_ℤ b) ≡ quotient a b
turned a (pos zero) some = absurd (some refl)
turned a (pos (suc b)) some = ap (λ c. rounded_down c (suc b)) (neg_twice a)
turned a (negsuc b) some = refl

-- the remainder is what the quotient leaves
pub whole : (a b : ℤ) → b *ℤ quotient a b +ℤ remainder a b ≡ a
whole a b = omega (arith, ints)

-- the bounds of the remainder by a divisor above 0
pub above : (a : ℤ) (b : ℕ) → 0 < b →
    (pos 0 ≤ℤ remainder a (pos b)) × (remainder a (pos b) <ℤ pos b)
above (pos n) b some =
    let s = splits n b some in (omega (arith, ints), omega (arith, ints))
above (negsuc n) b some =
    let s = splits n b some in
    let m = one_more b (n / b) in
    (omega (arith, ints), omega (arith, ints))

-- the bounds of the remainder by a divisor below 0
pub below_zero : (a : ℤ) (b : ℕ) →
    (remainder a (negsuc b) ≤ℤ pos 0) × (negsuc b <ℤ remainder a (negsuc b))
below_zero (pos zero) b =
    let s = splits 0 (suc b) (omega arith) in (omega (arith, ints), omega (arith, ints))
below_zero (pos (suc n)) b =
    let s = splits n (suc b) (omega arith) in
    let m = one_more (suc b) (n / suc b) in
    (omega (arith, ints), omega (arith, ints))
below_zero (negsuc n) b =
    let s = splits (suc n) (suc b) (omega arith) in
    (omega (arith, ints), omega (arith, ints))
