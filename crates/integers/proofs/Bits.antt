-- The bits of a pattern of 64 bits, and the number in two's complement that it stands for.
use Rattle.std.proofs.Common.{not, ◌≡◌, ℕ, zero, suc, ◌+◌, ◌-◌, ◌*◌, ◌/◌, ◌%◌, ◌^◌, ◌<◌, ◌≤◌, ◌==◌, ◌&&◌, ◌||◌, Bool, false, cond, ltb, inl, inr, min, max, ℤ, pos, negsuc, ◌-ℤ◌, FitsSigned, w64, of_z, to_z, refl, sym, ap, subst, ◌∙◌, arith}
use Rattle.std.specs.Int.{bit_at}
use Rattle.std.specs.Int.RustNames.{bit_and, bit_or, bit_xor}
use Rattle.std.proofs.lemmas.Bool.{cases_lt}
use Rattle.std.proofs.lemmas.Bool.Decides.{nat_tests}
use Rattle.std.proofs.Math.Facts.{sfits_to_z, of_z-to_z}
use Rattle.std.proofs.lemmas.Int.{ints, to_z_pos}
use Rattle.std.proofs.lemmas.Nat.{mod-pow-add, and_le_l, or_lt, xor_lt}
use Rattle.std.proofs.lemmas.Nat.Bits.{bit_at_and, bit_at_or, bit_at_xor, bit_at_not, bit_at-lt}
use Rattle.integers.specs.Bits.{bit, worth, lowest, of_bits, differ, bits_and, bits_or, bits_xor, complement}

-- whether bit i of a pattern is set
abbrev pub is_set : ℕ → ℕ → Bool
is_set p i = bit_at p i == 1

turned : (v : ℕ) → v < 2 → (v == 0) ≡ (1 - v == 1)
turned v small = grind (arith, nat_tests)

-- a bit of a number is that of its pattern
pub bit_is : (a : ℤ) (i : ℕ) → FitsSigned w64 a → i < 64 → bit a i ≡ is_set (of_z w64 a) i
bit_is (pos n) i fits below = refl
bit_is (negsuc n) i fits below =
    let small = fits.sfits in
    turned (bit_at n i) (bit_at-lt n i)
    ∙ ap (λ v. v == 1) (sym (bit_at_not w64 n i (omega arith) below))
    ∙ ap (λ p. is_set p i) (omega arith)

-- a pattern has 64 bits
of_z_small : (a : ℤ) → FitsSigned w64 a → of_z w64 a < 2 ^ 64
of_z_small (pos n) fits = let small = fits.sfits in omega arith
of_z_small (negsuc n) fits = omega arith

-- the worth of bit k: 2^k where it is set
counts : (v k : ℕ) → v < 2 → cond (v == 1) (2 ^ k) 0 ≡ v * 2 ^ k
counts zero k small = omega arith
counts (suc zero) k small = omega arith
counts (suc (suc v)) k small = absurd (omega arith)

-- the lowest bits of a pattern are its remainder
lowest_is : (k p : ℕ) → lowest k (is_set p) ≡ p % 2 ^ k
unfolding lowest
lowest_is zero p = omega arith
lowest_is (suc k) p =
    let v = bit_at p k in
    let step : p % 2 ^ (1 + k) ≡ (p / 2 ^ k % 2 ^ 1) * 2 ^ k + p % 2 ^ k = mod-pow-add p 1 k in
    let one : 1 + k ≡ suc k = omega arith in
    let there = subst (λ j. p % 2 ^ j ≡ (p / 2 ^ k % 2 ^ 1) * 2 ^ k + p % 2 ^ k) one step in
    omega (arith, lowest_is k p, counts v k (bit_at-lt p k), there)

lowest_same : (k : ℕ) (f g : ℕ → Bool) → ((i : ℕ) → i < k → f i ≡ g i) → lowest k f ≡ lowest k g
unfolding lowest
lowest_same zero f g same = refl
lowest_same (suc k) f g same =
    let worths : worth f k ≡ worth g k =
    ap (λ (b : Bool). cond b (2 ^ k) 0) (same k (omega arith)) in
    omega (arith, lowest_same k f g (λ i below. same i (omega arith)), worths)

-- bits that are the same make the same number
of_bits_same : (f g : ℕ → Bool) → ((i : ℕ) → i < 64 → f i ≡ g i) → of_bits f ≡ of_bits g
of_bits_same f g same =
    ap (λ n. pos n -ℤ pos (worth f 63)) (lowest_same 63 f g (λ i below. same i (omega arith)))
    ∙ ap (λ (b : Bool). pos (lowest 63 g) -ℤ pos (cond b (2 ^ 63) 0)) (same 63 (omega arith))

-- a pattern that begins with 0 is its number, and one that begins with 1 is below 0
plain : (p l w : ℕ) → p < 2 ^ 63 → l ≡ p → w ≡ 0 → pos l -ℤ pos w ≡ to_z w64 p
plain p l w small same none =
    let is : to_z w64 p ≡ pos p = to_z_pos w64 p small in
    rw is (omega (arith, ints))

below_zero : (p l w : ℕ) → 2 ^ 63 ≤ p → p < 2 ^ 64 → l + 2 ^ 63 ≡ p → w ≡ 2 ^ 63 →
    pos l -ℤ pos w ≡ to_z w64 p
below_zero p l w large small rest top =
    let test : ltb p (2 ^ 63) ≡ false = grind (arith, nat_tests) in
    rw test (omega (arith, ints))

-- a pattern stands for the number of its bits
pattern_is : (p : ℕ) → p < 2 ^ 64 → of_bits (is_set p) ≡ to_z w64 p
pattern_is p small =
    let low = lowest_is 63 p in
    let high = counts (bit_at p 63) 63 (bit_at-lt p 63) in
    elim (cases_lt p (2 ^ 63)) [
      | inr large ↦ below_zero p (lowest 63 (is_set p)) (worth (is_set p) 63) large small
          (omega arith) (omega arith)
      | inl below ↦ plain p (lowest 63 (is_set p)) (worth (is_set p) 63) below
          (omega arith) (omega arith)
    ]

-- 64 bits hold what a pattern stands for
fits_from : (p : ℕ) → p < 2 ^ 64 → FitsSigned w64 (to_z w64 p)
fits_from p small = sfits_to_z (record { fits = small })

-- a bit of what a pattern stands for is that of the pattern
bit_of : (p i : ℕ) → p < 2 ^ 64 → i < 64 → bit (to_z w64 p) i ≡ is_set p i
bit_of p i small below =
    bit_is (to_z w64 p) i (fits_from p small) below
    ∙ ap (λ q. is_set q i) (of_z-to_z {w = w64} (record { fits = small }))

both : (u v : ℕ) → u < 2 → v < 2 → ((u == 1) && (v == 1)) ≡ (min u v == 1)
both zero v small other = grind (arith, nat_tests)
both (suc zero) v small other = grind (arith, nat_tests)
both (suc (suc u)) v small other = absurd (omega arith)

either : (u v : ℕ) → u < 2 → v < 2 → ((u == 1) || (v == 1)) ≡ (max u v == 1)
either zero v small other = grind (arith, nat_tests)
either (suc zero) v small other = grind (arith, nat_tests)
either (suc (suc u)) v small other = absurd (omega arith)

one_alone : (u v : ℕ) → u < 2 → v < 2 → differ (u == 1) (v == 1) ≡ ((u + v) % 2 == 1)
one_alone zero v small other = grind (arith, nat_tests)
one_alone (suc zero) zero small other = refl
one_alone (suc zero) (suc zero) small other = refl
one_alone (suc zero) (suc (suc v)) small other = absurd (omega arith)
one_alone (suc (suc u)) v small other = absurd (omega arith)

module _ (a b : ℤ) (left : FitsSigned w64 a) (right : FitsSigned w64 b) where
  -- an operation on bits of the numbers is that on the bits of their patterns
  tests : (op : Bool → Bool → Bool) (i : ℕ) → i < 64 →
      op (bit a i) (bit b i) ≡ op (is_set (of_z w64 a) i) (is_set (of_z w64 b) i)
  tests op i below =
      ap (λ (x : Bool). op x (bit b i)) (bit_is a i left below)
      ∙ ap (λ (y : Bool). op (is_set (of_z w64 a) i) y) (bit_is b i right below)

  -- the number whose bits are those of a pattern
  joined : (op : Bool → Bool → Bool) (p : ℕ) → p < 2 ^ 64 →
      ((i : ℕ) → op (is_set (of_z w64 a) i) (is_set (of_z w64 b) i) ≡ is_set p i) →
      to_z w64 p ≡ of_bits (λ i. op (bit a i) (bit b i))
  joined op p small is =
      sym
      (of_bits_same (λ i. op (bit a i) (bit b i)) (is_set p)
      (λ i below. tests op i below ∙ is i)
      ∙ pattern_is p small)

  left_small : of_z w64 a < 2 ^ 64
  left_small = of_z_small a left

  right_small : of_z w64 b < 2 ^ 64
  right_small = of_z_small b right

  and_small : bit_and (of_z w64 a) (of_z w64 b) < 2 ^ 64
  and_small = omega (arith, and_le_l (of_z w64 a) (of_z w64 b), left_small)

  and_each : (i : ℕ) → (λ (x y : Bool). x && y) (is_set (of_z w64 a) i) (is_set (of_z w64 b) i)
      ≡ is_set (bit_and (of_z w64 a) (of_z w64 b)) i
  and_each i =
      both (bit_at (of_z w64 a) i) (bit_at (of_z w64 b) i) (bit_at-lt (of_z w64 a) i)
      (bit_at-lt (of_z w64 b) i)
      ∙ ap (λ v. v == 1) (sym (bit_at_and (of_z w64 a) (of_z w64 b) i))

  -- the result of the code's `&`, that 64 bits hold it, and its bits
  pub and_is : to_z w64 (bit_and (of_z w64 a) (of_z w64 b)) ≡ bits_and a b
  and_is = joined (λ (x y : Bool). x && y) (bit_and (of_z w64 a) (of_z w64 b)) and_small and_each

  pub and_fits : FitsSigned w64 (bits_and a b)
  and_fits =
      subst (λ z. FitsSigned w64 z) and_is
      (fits_from (bit_and (of_z w64 a) (of_z w64 b)) and_small)

  pub and_bit : (i : ℕ) → i < 64 → bit (bits_and a b) i ≡ (bit a i && bit b i)
  and_bit i below =
      ap (λ z. bit z i) (sym and_is)
      ∙ bit_of (bit_and (of_z w64 a) (of_z w64 b)) i and_small below
      ∙ sym (tests (λ (x y : Bool). x && y) i below ∙ and_each i)

  or_small : bit_or (of_z w64 a) (of_z w64 b) < 2 ^ 64
  or_small = or_lt 64 (of_z w64 a) (of_z w64 b) left_small right_small

  or_each : (i : ℕ) → (λ (x y : Bool). x || y) (is_set (of_z w64 a) i) (is_set (of_z w64 b) i)
      ≡ is_set (bit_or (of_z w64 a) (of_z w64 b)) i
  or_each i =
      either (bit_at (of_z w64 a) i) (bit_at (of_z w64 b) i) (bit_at-lt (of_z w64 a) i)
      (bit_at-lt (of_z w64 b) i)
      ∙ ap (λ v. v == 1) (sym (bit_at_or (of_z w64 a) (of_z w64 b) i))

  -- the same for `|`
  pub or_is : to_z w64 (bit_or (of_z w64 a) (of_z w64 b)) ≡ bits_or a b
  or_is = joined (λ (x y : Bool). x || y) (bit_or (of_z w64 a) (of_z w64 b)) or_small or_each

  pub or_fits : FitsSigned w64 (bits_or a b)
  or_fits =
      subst (λ z. FitsSigned w64 z) or_is
      (fits_from (bit_or (of_z w64 a) (of_z w64 b)) or_small)

  pub or_bit : (i : ℕ) → i < 64 → bit (bits_or a b) i ≡ (bit a i || bit b i)
  or_bit i below =
      ap (λ z. bit z i) (sym or_is)
      ∙ bit_of (bit_or (of_z w64 a) (of_z w64 b)) i or_small below
      ∙ sym (tests (λ (x y : Bool). x || y) i below ∙ or_each i)

  xor_small : bit_xor (of_z w64 a) (of_z w64 b) < 2 ^ 64
  xor_small = xor_lt 64 (of_z w64 a) (of_z w64 b) left_small right_small

  xor_each : (i : ℕ) → differ (is_set (of_z w64 a) i) (is_set (of_z w64 b) i)
      ≡ is_set (bit_xor (of_z w64 a) (of_z w64 b)) i
  xor_each i =
      one_alone (bit_at (of_z w64 a) i) (bit_at (of_z w64 b) i) (bit_at-lt (of_z w64 a) i)
      (bit_at-lt (of_z w64 b) i)
      ∙ ap (λ v. v == 1) (sym (bit_at_xor (of_z w64 a) (of_z w64 b) i))

  -- the same for `^`
  pub xor_is : to_z w64 (bit_xor (of_z w64 a) (of_z w64 b)) ≡ bits_xor a b
  xor_is = joined differ (bit_xor (of_z w64 a) (of_z w64 b)) xor_small xor_each

  pub xor_fits : FitsSigned w64 (bits_xor a b)
  xor_fits =
      subst (λ z. FitsSigned w64 z) xor_is
      (fits_from (bit_xor (of_z w64 a) (of_z w64 b)) xor_small)

  pub xor_bit : (i : ℕ) → i < 64 → bit (bits_xor a b) i ≡ differ (bit a i) (bit b i)
  xor_bit i below =
      ap (λ z. bit z i) (sym xor_is)
      ∙ bit_of (bit_xor (of_z w64 a) (of_z w64 b)) i xor_small below
      ∙ sym (tests differ i below ∙ xor_each i)

even : (v : ℕ) → v < 2 → (v == 0) ≡ not (v == 1)
even zero small = refl
even (suc zero) small = refl
even (suc (suc v)) small = absurd (omega arith)

odd : (v : ℕ) → v < 2 → (v == 1) ≡ not (v == 0)
odd zero small = refl
odd (suc zero) small = refl
odd (suc (suc v)) small = absurd (omega arith)

-- the complement inverts each bit
pub complement_bit : (a : ℤ) (i : ℕ) → bit (complement a) i ≡ not (bit a i)
complement_bit (pos n) i =
    let is : complement (pos n) ≡ negsuc n = omega (arith, ints) in
    ap (λ z. bit z i) is ∙ even (bit_at n i) (bit_at-lt n i)
complement_bit (negsuc n) i =
    let is : complement (negsuc n) ≡ pos n = omega (arith, ints) in
    ap (λ z. bit z i) is ∙ odd (bit_at n i) (bit_at-lt n i)
