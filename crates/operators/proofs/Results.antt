-- Numbers as results of operators.
use Rattle.std.proofs.Common.{◌≡◌, true, false, Option, Some, None, SomeIff, IfSome, ℤ, pos, FitsSigned, w64, sym, ap, ◌∙◌, arith}
use Rattle.std.proofs.lemmas.Fmt.{decimal_digit}
use Rattle.std.specs.Fmt.{signed_decimal}
use Rattle.meanings.specs.Meaning.{truth, Gives, Raises}
use Rattle.operators.specs.Number.{number_of, told}
use Rattle.operators.specs.Numeric.{GivesNumber, MeansNumber}
use Rattle.operators.proofs.Read.{decimal_is, in_range}
use Rattle.acts.specs.Flaw as flaw
use Rattle.tcltext.specs.Numbers.{is_in_range}
use Rattle.std.proofs.Common.{Bool, cond, refl}
use Rattle.meanings.specs.Meaning.{Meaning}

-- the two truth values as numbers
pub one_is : number_of (truth true) ≡ Some (pos 1)
one_is = ap number_of (sym (decimal_digit 1 (omega arith)))
    ∙ decimal_is (pos 1) (record { sfits = omega arith })

pub zero_is : number_of (truth false) ≡ Some (pos 0)
zero_is = ap number_of (sym (decimal_digit 0 (omega arith)))
    ∙ decimal_is (pos 0) (record { sfits = omega arith })

-- a number that 64 bits hold is told in decimal
told_in : (n m : ℤ) (b : Bool) → is_in_range n ≡ b → is_in_range n ≡ true → FitsSigned w64 n →
    m ≡ n → MeansNumber (cond {A = Meaning} b (Gives (signed_decimal n)) (Raises flaw.OutOfRange)) m
told_in n m true _ _ fits same = decimal_is n fits ∙ ap (λ k. Some k) (sym same)
told_in n m false is holds fits same = absurd (grind (arith, is, holds))

pub told_is : (n : ℤ) (r : Option ℤ) → SomeIff r (FitsSigned w64 n) n →
    IfSome r (MeansNumber (told n))
told_is n None is = tt
told_is n (Some m) is = told_in n m (is_in_range n) refl (in_range n is.0) is.0 is.1

-- the same as decimal text
told_out : (n m : ℤ) (b : Bool) → is_in_range n ≡ b → is_in_range n ≡ true → m ≡ n →
    GivesNumber (cond {A = Meaning} b (Gives (signed_decimal n)) (Raises flaw.OutOfRange)) m
told_out n m true _ _ same = ap (λ k. Gives (signed_decimal k)) (sym same)
told_out n m false is holds same = absurd (grind (arith, is, holds))

pub told_gives : (n : ℤ) (r : Option ℤ) → SomeIff r (FitsSigned w64 n) n →
    IfSome r (GivesNumber (told n))
told_gives n None is = tt
told_gives n (Some m) is = told_out n m (is_in_range n) refl (in_range n is.0) is.1
