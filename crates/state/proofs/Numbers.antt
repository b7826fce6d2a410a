-- What a text is as a whole number.
use Rattle.std.proofs.Common.{◌≡◌, ℕ, true, false, List, Option, Some, None, MatchOption, IfSome, ℤ, refl, sym}
use Rattle.tcltext.specs.Numeral.{IsNumeral, IsInRange}
use Rattle.tcltext.specs.Numbers.{numeral, is_in_range, some_in_range}
use Rattle.tcltext.proofs.Numerals.{numeral_read}
use Rattle.tcltext.proofs.Within.{read_says}
use Rattle.state.specs.Variables.{kept, whole_of}

out_of_range : (o : Option ℤ) → some_in_range o ≡ false → kept o ≡ None
out_of_range None off = refl
out_of_range (Some n) off = rw off refl

in_range : (o : Option ℤ) (n : ℤ) → o ≡ Some n → some_in_range o ≡ true → kept o ≡ Some n
in_range o n is on =
    let here : is_in_range n ≡ true = rw is at on in
    rw is (rw here refl)

-- the number that reading a text gives
pub whole_read : (x : List ℕ) (r : Option ℤ) →
    MatchOption r ((n : ℤ) → IsNumeral n x → IsInRange n → ⊥) (λ n. IsNumeral n x) →
    IfSome r IsInRange → whole_of x ≡ r
whole_read x None none range = out_of_range (numeral x) (sym (read_says x None none range))
whole_read x (Some n) is range =
    in_range (numeral x) n (numeral_read n x is) (sym (read_says x (Some n) is range))
