-- Whether a text is a number.
use Rattle.std.proofs.Common.{◌≡◌, ◌↔◌, ℕ, ◌≤◌, Bool, true, false, List, Option, Some, None, MatchOption, IfSome, is_some, ℤ, pos, negsuc, refl, sym, ap, ◌∙◌, arith}
use Rattle.std.proofs.lemmas.Int.{ints}
use Rattle.std.proofs.lemmas.Bool.Decides.{nat_tests}
use Rattle.tcltext.specs.Numeral.{IsNumeral, IsInRange}
use Rattle.tcltext.specs.Numbers.{numeral, is_in_range, some_in_range, is_number}
use Rattle.tcltext.proofs.Numerals.{numeral_read, numeral_spelled}

within : (n : ℤ) → IsInRange n → is_in_range n ≡ true
within (pos n) h = grind (arith, ints, nat_tests, h.0, h.1)
within (negsuc n) h = grind (arith, ints, nat_tests, h.0, h.1)

in_range : (n : ℤ) → is_in_range n ≡ true → IsInRange n
in_range (pos n) h = let le : n ≤ 9223372036854775807 = grind (arith, nat_tests) in
    (omega (arith, ints), omega (arith, ints))
in_range (negsuc n) h = let le : n ≤ 9223372036854775807 = grind (arith, nat_tests) in
    (omega (arith, ints), omega (arith, ints))

numeral_counts : (x : List ℕ) (n : ℤ) → IsNumeral n x → IsInRange n → is_number x ≡ true
numeral_counts x n is range = ap some_in_range (numeral_read n x is) ∙ within n range

number_spelled : (x : List ℕ) (o : Option ℤ) → numeral x ≡ o → some_in_range o ≡ true → (n : ℤ)
    × IsNumeral n x × IsInRange n
number_spelled x None is h = absurd (cc)
number_spelled x (Some n) is h = (n, numeral_spelled n x is, in_range n h)

pub number_is_numeral : (x : List ℕ) → (is_number x ≡ true) ↔ ((n : ℤ) × IsNumeral n x
    × IsInRange n)
number_is_numeral x = (λ h. number_spelled x (numeral x) refl h, λ h. numeral_counts x h.0 h.1 h.2)

none_counts : (x : List ℕ) (b : Bool) → is_number x ≡ b →
    ((n : ℤ) → IsNumeral n x → IsInRange n → ⊥) → false ≡ b
none_counts x false is none = refl
none_counts x true is none = let number = number_spelled x (numeral x) refl is in
    absurd (none number.0 number.1 number.2)

-- reading finds a number exactly where the text is one
pub read_says : (x : List ℕ) (r : Option ℤ) →
    MatchOption r ((n : ℤ) → IsNumeral n x → IsInRange n → ⊥) (λ n. IsNumeral n x) →
    IfSome r IsInRange → is_some r ≡ is_number x
read_says x None none range = none_counts x (is_number x) refl none
read_says x (Some n) is range = sym (numeral_counts x n is range)
