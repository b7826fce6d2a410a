-- Which results 64 bits hold.
use Rattle.std.proofs.Common.{◌≡◌, ℕ, zero, suc, false, Option, Some, None, SomeIff, ℤ, pos, negsuc, neg_ℤ, FitsSigned, w64, of_z, refl, arith}
use Rattle.std.specs.Ordering.{int_eq}
use Rattle.std.specs.Prelude.{unsigned_abs}
use Rattle.std.proofs.lemmas.Bool.Decides.{nat_tests}

-- a number that is not 0
pub not_zero : (n : ℤ) → (of_z w64 n ≡ 0 → ⊥) → int_eq n (pos 0) ≡ false
not_zero (pos zero) never = absurd (never refl)
not_zero (pos (suc n)) never = grind (arith, nat_tests)
not_zero (negsuc n) never = refl

negated : (n : ℕ) → FitsSigned w64 (pos n) → FitsSigned w64 (neg_ℤ (pos n))
negated zero small = small
negated (suc n) small = let below = small.sfits in record { sfits = omega arith }

-- 64 bits hold the absolute value of a number where they hold its negation
pub absolute_fits : (n : ℤ) (r : Option ℤ) → FitsSigned w64 n →
    SomeIff r (FitsSigned w64 (neg_ℤ n)) (pos (unsigned_abs n)) →
    SomeIff r (FitsSigned w64 (pos (unsigned_abs n))) (pos (unsigned_abs n))
absolute_fits (pos n) None small none = λ fits. none (negated n small)
absolute_fits (pos n) (Some m) small some = (small, some.1)
absolute_fits (negsuc n) r small is = is
