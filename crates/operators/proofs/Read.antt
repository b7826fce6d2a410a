-- What a text is read as, and numbers as results.
use Rattle.std.proofs.Common.{◌≡◌, ℕ, ◌≤◌, Bool, true, false, cond, List, Option, Some, None, MatchOption, IfSome, option_and_then, ℤ, pos, negsuc, FitsSigned, w64, refl, sym, ap, ◌∙◌, arith}
use Rattle.std.proofs.lemmas.Int.{ints}
use Rattle.std.proofs.lemmas.Bool.Decides.{nat_tests}
use Rattle.std.specs.Fmt.{signed_decimal}
use Rattle.tcltext.specs.Numeral.{IsNumeral, IsInRange}
use Rattle.tcltext.specs.Numbers.{numeral, is_in_range}
use Rattle.tcltext.proofs.Numerals.{numeral_read, numeral_spelled}
use Rattle.operators.specs.Number.{held, number_of}
use Rattle.tcltext.proofs.Decimals.{is_numeral}

pub in_range : (n : ℤ) → FitsSigned w64 n → is_in_range n ≡ true
in_range (pos n) fits = grind (arith, nat_tests, fits.sfits)
in_range (negsuc n) fits = grind (arith, nat_tests, fits.sfits)

fits : (n : ℤ) → is_in_range n ≡ true → FitsSigned w64 n
fits (pos n) is = let le : n ≤ 9223372036854775807 = grind (arith, nat_tests) in
    record { sfits = omega arith }
fits (negsuc n) is = let le : n ≤ 9223372036854775807 = grind (arith, nat_tests) in
    record { sfits = omega arith }

range_fits : (n : ℤ) → IsInRange n → FitsSigned w64 n
range_fits (pos n) is = record { sfits = omega (arith, ints, is.1) }
range_fits (negsuc n) is = record { sfits = omega (arith, ints, is.0) }

fits_range : (n : ℤ) → FitsSigned w64 n → IsInRange n
fits_range (pos n) is = let small = is.sfits in (omega (arith, ints), omega (arith, ints))
fits_range (negsuc n) is = let small = is.sfits in (omega (arith, ints), omega (arith, ints))

held_is : (n : ℤ) → FitsSigned w64 n → held n ≡ Some n
held_is n is = rw (in_range n is) refl

-- a numeral within 64 bits is its number
numeral_is : (n : ℤ) (text : List ℕ) → IsNumeral n text → FitsSigned w64 n →
    number_of text ≡ Some n
unfolding number_of
numeral_is n text is small =
    ap (option_and_then held) (numeral_read n text is) ∙ held_is n small

-- the decimal text of a number is that number
pub decimal_is : (n : ℤ) → FitsSigned w64 n → number_of (signed_decimal n) ≡ Some n
decimal_is n is = numeral_is n (signed_decimal n) (is_numeral n is.sfits) is

none_held : (text : List ℕ) (n : ℤ) (b : Bool) → is_in_range n ≡ b → numeral text ≡ Some n →
    ((m : ℤ) → IsNumeral m text → IsInRange m → ⊥) →
    cond {A = Option ℤ} b (Some n) None ≡ None
none_held text n false is read none = refl
none_held text n true is read none =
    absurd (none n (numeral_spelled n text read) (fits_range n (fits n is)))

none_read : (text : List ℕ) (o : Option ℤ) → numeral text ≡ o →
    ((m : ℤ) → IsNumeral m text → IsInRange m → ⊥) → option_and_then held o ≡ None
none_read text None read none = refl
none_read text (Some n) read none = none_held text n (is_in_range n) refl read none

-- the number that a text is read as is the one that it spells
pub read_is : (text : List ℕ) (r : Option ℤ) →
    MatchOption r ((n : ℤ) → IsNumeral n text → IsInRange n → ⊥) (λ n. IsNumeral n text) →
    IfSome r IsInRange → r ≡ number_of text
unfolding number_of
read_is text (Some n) is small = sym (numeral_is n text is (range_fits n small))
read_is text None none small = sym (none_read text (numeral text) refl none)
