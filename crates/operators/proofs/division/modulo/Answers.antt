use Rattle.std.proofs.Common.{◌≡◌, ℤ, FitsSigned, w64, of_z, to_z, SomeIff, subst}
use Rattle.std.proofs.lemmas.Int.{to_z-of_z}
use Rattle.integers.specs.Division.{remainder}
use Rattle.operators.proofs.Fits.{not_zero}
use Rattle.operators.proofs.division.modulo.Goals as goal

pub returns : goal.returns
returns g c =
    let a = c.args.a in
    let b = c.args.b in
    let left : to_z w64 (of_z w64 a) ≡ a = to_z-of_z w64 a c.ranges.a in
    let right : to_z w64 (of_z w64 b) ≡ b = to_z-of_z w64 b c.ranges.b in
    let whole =
    λ (x : ℤ) (y : ℤ).
    SomeIff c.remainder.result (FitsSigned w64 (remainder x y)) (remainder x y) in
    let first = subst (λ (x : ℤ). whole x (to_z w64 (of_z w64 b))) left c.remainder.ensures in
    let both = subst (λ (y : ℤ). whole a y) right first in
    rw (not_zero b c.if-b-eq0.false) (c.told.ensures (remainder a b) both)
