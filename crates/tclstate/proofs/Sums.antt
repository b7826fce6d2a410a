-- What is added in place is the sum that contracts see.
use Rattle.std.proofs.Common.{◌≡◌, ◌<◌, ◌≤◌, ℕ, List, length, Option, Some, None, IfNone, Result, Err, true, ℤ, pos, negsuc, ◌+ℤ◌, FitsSigned, w64, to_z, of_z, sym, ap, subst, ◌∙◌, arith}
use Rattle.std.proofs.lemmas.Int.{ints, to_z-of_z}
use Rattle.std.proofs.lemmas.Bool.Decides.{nat_tests}
use Rattle.std.specs.Fmt.{signed_decimal}
use Rattle.tcltext.specs.Numeral.{IsNumeral, IsInRange}
use Rattle.tcltext.specs.Numbers.{is_in_range}
use Rattle.tcltext.proofs.Numerals.{numeral_read, numeral_spelled, one_value}
use Rattle.tclstate.specs.Scopes.{Trouble}
use Rattle.tclstate.specs.Sum.{IsSum, HasSum, NoSumInPlace}

-- what holds at all holds where there is nothing
pub IfNone_holds : {X P : Type 0} (r : Option X) → P → IfNone r P
IfNone_holds (Some x) p = tt
IfNone_holds None p = p

-- what follows where there is nothing
pub IfNone_then : {X P Q : Type 0} (r : Option X) → IfNone r P → (P → Q) → IfNone r Q
IfNone_then (Some x) p f = tt
IfNone_then None p f = f p

pub IfNone_both : {X P Q R : Type 0} (r : Option X) → (P → Q → R) → IfNone r P → IfNone r Q →
    IfNone r R
IfNone_both (Some x) f p q = tt
IfNone_both None f p q = f p q

fits : (n : ℤ) → IsInRange n → FitsSigned w64 n
fits (pos n) h = record { sfits = omega (arith, ints, h.1) }
fits (negsuc n) h = record { sfits = omega (arith, ints, h.0) }

in_range : (n : ℤ) → FitsSigned w64 n → is_in_range n ≡ true
in_range (pos n) fits = grind (arith, nat_tests, fits.sfits)
in_range (negsuc n) fits = grind (arith, nat_tests, fits.sfits)

within : (n : ℤ) → is_in_range n ≡ true → IsInRange n
within (pos n) h = let le : n ≤ 9223372036854775807 = grind (arith, nat_tests) in
    (omega (arith, ints), omega (arith, ints))
within (negsuc n) h = let le : n ≤ 9223372036854775807 = grind (arith, nat_tests) in
    (omega (arith, ints), omega (arith, ints))

-- a number as 64 bits keep it
abbrev kept : ℤ → ℤ
kept n = to_z w64 (of_z w64 n)

-- it is the same number
pub same_sum : (by : ℤ) (sum : List ℕ) (r : Result (List ℕ) Trouble) → FitsSigned w64 by →
    HasSum (kept by) sum r → HasSum by sum r
same_sum by sum r fits = subst (λ k. HasSum k sum r) (to_z-of_z w64 by fits)

pub same_missed : (by : ℤ) (r : Result (List ℕ) Trouble) → FitsSigned w64 by →
    NoSumInPlace (kept by) r → NoSumInPlace by r
same_missed by r fits = subst (λ k. NoSumInPlace k r) (to_z-of_z w64 by fits)

-- nothing is added where nothing is read
pub missed_absent : (by : ℤ) (t : Trouble) (r : Result (List ℕ) Trouble) → r ≡ Err t →
    NoSumInPlace by r
missed_absent by t r is = subst (NoSumInPlace by) (sym is) (λ sum h. absurd h)

-- the sum of a number that was read and of another, in decimal
pub is_sum : (by n m : ℤ) (text sum : List ℕ) → IsNumeral n text → IsInRange n →
    FitsSigned w64 by → FitsSigned w64 (kept n +ℤ kept by) → m ≡ kept n +ℤ kept by →
    sum ≡ signed_decimal (kept m) → IsSum by text sum
is_sum by n m text sum is range other sum_range made written =
    let same : kept n +ℤ kept by ≡ n +ℤ by =
    λ i. to_z-of_z w64 n (fits n range) i +ℤ to_z-of_z w64 by other i in
    record {
      number = n;
      is = numeral_read n text is;
      in_range = in_range n (fits n range);
      sum_in_range = in_range (n +ℤ by) (subst (FitsSigned w64) same sum_range);
      written = written ∙ ap signed_decimal
          (to_z-of_z w64 m (subst (FitsSigned w64) (sym made) sum_range) ∙ made ∙ same);
    }

-- there is no sum of a text that is no number
pub missed_number : (by : ℤ) (text : List ℕ) →
    ((n : ℤ) → IsNumeral n text → IsInRange n → ⊥) → (sum : List ℕ) → IsSum by text sum →
    14 < length sum
missed_number by text none sum is =
    absurd (none is.number (numeral_spelled is.number text is.is) (within is.number is.in_range))

module _ (by n : ℤ) (text : List ℕ) (read : IsNumeral n text) (range : IsInRange n)
    (other : FitsSigned w64 by) where
  -- a sum of the text is that of the number that was read
  same_total : (sum : List ℕ) (is : IsSum by text sum) → kept n +ℤ kept by ≡ is.number +ℤ by
  same_total sum is =
      λ i. (to_z-of_z w64 n (fits n range) ∙ one_value text n is.number read
      (numeral_spelled is.number text is.is)) i +ℤ to_z-of_z w64 by other i

  total_fits : (sum : List ℕ) → IsSum by text sum → FitsSigned w64 (kept n +ℤ kept by)
  total_fits sum is = subst (FitsSigned w64) (sym (same_total sum is))
      (fits (is.number +ℤ by) (within (is.number +ℤ by) is.sum_in_range))

  -- there is none where 64 bits do not hold it
  pub missed_range : (FitsSigned w64 (kept n +ℤ kept by) → ⊥) → (sum : List ℕ) →
      IsSum by text sum → 14 < length sum
  missed_range wide sum is = absurd (wide (total_fits sum is))

  -- it is too long where what is written in decimal is
  pub missed_room : (m : ℤ) → m ≡ kept n +ℤ kept by → 14 < length (signed_decimal (kept m)) →
      (sum : List ℕ) → IsSum by text sum → 14 < length sum
  missed_room m made long sum is =
      let same : signed_decimal (kept m) ≡ sum =
      ap signed_decimal (to_z-of_z w64 m (subst (FitsSigned w64) (sym made) (total_fits sum is))
      ∙ made ∙ same_total sum is) ∙ sym is.written in
      subst (λ text. 14 < length text) same long
