-- The range test of a numeral.
use Rattle.std.proofs.Common.{◌≡◌, ℕ, zero, suc, ◌^◌, ◌<◌, nat_lt, List, Bool, true, false, cond, Option, Some, None, option_map, SomeIff, MatchOption, FitsSigned, w64, lit<, zero-add, refl, sym, ap, subst, ◌∙◌, arith, ℤ, pos, negsuc, ◌+ℤ◌, ◌-ℤ◌}
use Rattle.std.proofs.lemmas.Int.{ints}
use Rattle.tcltext.specs.White.{skip_white}
use Rattle.tcltext.specs.Numeral.{IsNumeral, IsInRange}
use Rattle.tcltext.specs.Numbers.{unsigned, is_minus, behind_sign, with_sign, numeral, small}
use Rattle.tcltext.proofs.Numbers.{small_some}
use Rattle.tcltext.proofs.Numerals.{size_of, numeral_read, numeral_spelled}

in_range_fits : (z : ℤ) → IsInRange z → FitsSigned w64 z
in_range_fits (pos n) h = record { sfits = omega (arith, ints, h.1) }
in_range_fits (negsuc n) h = record { sfits = omega (arith, ints, h.0) }

range_small : (negative : Bool) (m : ℕ) → IsInRange (with_sign negative m) → m < 2 ^ 64
range_small true zero h = lit< tt
range_small true (suc m) h = omega (arith, ints, h.0)
range_small false m h = omega (arith, ints, h.1)

small_at : (m n : ℕ) (b : Bool) → cond {A = Option ℕ} b (Some m) None ≡ Some n → m ≡ n
small_at m n true h = cc
small_at m n false h = absurd (cc)

small_is : (o : Option ℕ) (m : ℕ) → small o ≡ Some m → o ≡ Some m
small_is None m h = absurd (cc)
small_is (Some n) m h = ap (λ k. Some k) (small_at n m (nat_lt n (2 ^ 64)) h)

pub too_large : (x : List ℕ) → small (unsigned (behind_sign (skip_white x))) ≡ None → (n : ℤ) →
    IsNumeral n x → IsInRange n → ⊥
too_large x none n is within =
    let size = size_of (is_minus (skip_white x)) (unsigned (behind_sign (skip_white x))) n
    (numeral_read n x is) in
    let fits : size.0 < 2 ^ 64 = range_small (is_minus (skip_white x)) size.0
    (subst IsInRange size.2 within) in
    let some : small (unsigned (behind_sign (skip_white x))) ≡ Some size.0 =
    ap small size.1 ∙ small_some size.0 fits in
    cc

pub minus : (m : ℕ) → pos 0 -ℤ pos m ≡ with_sign true m
minus zero = refl
minus (suc m) = omega (arith, ints)

pub plus : (m : ℕ) → pos 0 +ℤ pos m ≡ with_sign false m
plus m = ap (λ k. pos k) (zero-add m)

pub in_range : (x : List ℕ) (negative : Bool) (m : ℕ) (z : ℤ) (r : Option ℤ) → negative
    ≡ is_minus (skip_white x) → small (unsigned (behind_sign (skip_white x))) ≡ Some m
    → z ≡ with_sign negative m → SomeIff r (FitsSigned w64 z) z →
    MatchOption r ((n : ℤ) → IsNumeral n x → IsInRange n → ⊥) (λ n. IsNumeral n x)
in_range x negative m z (Some n) sign size is h =
    let read : numeral x ≡ Some n =
    ap (λ o. option_map (with_sign (is_minus (skip_white x))) o)
    (small_is (unsigned (behind_sign (skip_white x))) m size)
    ∙ ap (λ b. Some (with_sign b m)) (sym sign) ∙ ap (λ k. Some k) (sym is ∙ sym h.1) in
    numeral_spelled n x read
in_range x negative m z None sign size is h = λ n numeral within.
    let found = size_of (is_minus (skip_white x)) (unsigned (behind_sign (skip_white x))) n
    (numeral_read n x numeral) in
    let same : Some found.0 ≡ Some m = sym found.1
    ∙ small_is (unsigned (behind_sign (skip_white x))) m size in
    let equal : found.0 ≡ m = cc in
    let value : n ≡ z = found.2 ∙ ap (λ b. with_sign b found.0) (sym sign)
    ∙ ap (with_sign negative) equal ∙ sym is in
    h (in_range_fits z (subst IsInRange value within))
