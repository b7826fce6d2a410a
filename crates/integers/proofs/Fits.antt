-- Which shifts 64 bits hold.
use Rattle.std.proofs.Common.{◌≡◌, inl, inr, ℕ, zero, suc, ◌*◌, ◌/◌, ◌^◌, ◌<◌, ◌≤◌, min, ℤ, pos, negsuc, ◌*ℤ◌, FitsSigned, w64, of_z, to_z, refl, ap, ◌∙◌, arith}
use Rattle.std.specs.Prelude.{unsigned_abs}
use Rattle.std.proofs.lemmas.Bool.{cases_lt}
use Rattle.std.proofs.lemmas.Int.{to_z-of_z, unsigned_abs-mul}
use Rattle.std.proofs.lemmas.Nat.{pow_below, pow_pos, mul-le, div_below}
use lib.Signed.{nat_abs-le, shr_z, mag_shr}
use Rattle.integers.specs.Division.{rounded_down}

some_size : (a : ℤ) → (of_z w64 a ≡ 0 → ⊥) → 1 ≤ unsigned_abs a
some_size (pos zero) never = absurd (never refl)
some_size (pos (suc n)) never = omega arith
some_size (negsuc n) never = omega arith

-- 64 bits do not hold a number that is not 0 times a power of two above 2^63
pub power_too_large : (a : ℤ) (n : ℕ) → (of_z w64 a ≡ 0 → ⊥) → 63 < n →
    FitsSigned w64 (a *ℤ pos (2 ^ n)) → ⊥
power_too_large a n never large fits =
    let some : 1 ≤ unsigned_abs a = some_size a never in
    let size : unsigned_abs (a *ℤ pos (2 ^ n)) ≡ unsigned_abs a * 2 ^ n =
    unsigned_abs-mul a (pos (2 ^ n)) in
    let small = nat_abs-le (a *ℤ pos (2 ^ n)) fits.sfits in
    let product = mul-le 1 (2 ^ n) (unsigned_abs a) (2 ^ n) some (omega arith) in
    omega (arith, pow_below 63 n large)

-- a quotient by a power of two above 2^63 is 0
gone : (m n : ℕ) → m < 2 ^ 63 → 63 < n → m / 2 ^ n ≡ 0
gone m n small large =
    omega (arith, div_below m (2 ^ n) 1 (pow_pos n) (omega (arith, pow_below 63 n large)))

nothing_left : (m n k : ℕ) → m < 2 ^ 63 → k ≡ min n 63 → m / 2 ^ k ≡ m / 2 ^ n
nothing_left m n k small is = elim (cases_lt 63 n) [
  | inr low ↦ let same : k ≡ n = omega arith in ap (λ j. m / 2 ^ j) same
  | inl high ↦
      let last : k ≡ 63 = omega arith in
      ap (λ j. m / 2 ^ j) last ∙ omega (arith, gone m n small high)
]

-- a shift by more than 63 bits leaves what one by 63 bits does
shifted : (a : ℤ) (n k : ℕ) → FitsSigned w64 a → k ≡ min n 63 →
    shr_z a (2 ^ k) ≡ rounded_down a (2 ^ n)
shifted (pos m) n k small is = ap (λ q. pos q) (nothing_left m n k small.sfits is)
shifted (negsuc m) n k small is = ap (λ q. negsuc q) (nothing_left m n k small.sfits is)

-- what the code's shift gives
pub shift_is : (a : ℤ) (n k : ℕ) → FitsSigned w64 a → k ≡ min n 63 →
    to_z w64 (of_z w64 (shr_z (to_z w64 (of_z w64 a)) (2 ^ k))) ≡ rounded_down a (2 ^ n)
shift_is a n k small is =
    let below = mag_shr a (2 ^ k) in
    let range = small.sfits in
    let fits : FitsSigned w64 (shr_z a (2 ^ k)) = record { sfits = omega arith } in
    ap (λ z. to_z w64 (of_z w64 (shr_z z (2 ^ k)))) (to_z-of_z w64 a small)
    ∙ to_z-of_z w64 (shr_z a (2 ^ k)) fits ∙ shifted a n k small is
