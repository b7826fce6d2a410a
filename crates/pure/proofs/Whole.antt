-- What reading a text as a number says of it.
use Rattle.std.proofs.Common.{◌≡◌, ℕ, Bool, true, false, cond, List, Option, Some, None, MatchOption, IfSome, is_some, ℤ, refl, sym}
use Rattle.pure.specs.Place.{whole_of}
use Rattle.tcltext.specs.Numbers.{numeral, is_number}
use Rattle.tcltext.specs.Numeral.{IsNumeral, IsInRange}
use Rattle.tcltext.proofs.Numerals.{numeral_read}
use Rattle.tcltext.proofs.Within.{read_says}

picked : (b : Bool) (o r : Option ℤ) → is_some r ≡ b → IfSome r (λ n. o ≡ Some n) →
    r ≡ cond b o None
picked true o None says is = absurd (cc)
picked false o None says is = refl
picked true o (Some n) says is = sym is
picked false o (Some n) says is = absurd (cc)

told : (x : List ℕ) (r : Option ℤ) →
    MatchOption r ((n : ℤ) → IsNumeral n x → IsInRange n → ⊥) (λ n. IsNumeral n x) →
    IfSome r (λ n. numeral x ≡ Some n)
told x None none = tt
told x (Some n) is = numeral_read n x is

pub whole_read : (x : List ℕ) (r : Option ℤ) →
    MatchOption r ((n : ℤ) → IsNumeral n x → IsInRange n → ⊥) (λ n. IsNumeral n x) →
    IfSome r IsInRange → r ≡ whole_of x
whole_read x r value range =
    picked (is_number x) (numeral x) r (read_says x r value range) (told x r value)
