use Rattle.std.proofs.Common.{◌≡◌, ℤ, pos, neg_ℤ, FitsSigned, w64, of_z, to_z, SomeIff, subst, rules}
use Rattle.std.proofs.lemmas.Int.{to_z-of_z}
use Rattle.std.specs.Prelude.{unsigned_abs}
use Rattle.operators.specs.Number.{with_number, told}
use Rattle.operators.proofs.Asked.{one, passed}
use Rattle.operators.proofs.Fits.{absolute_fits}
use Rattle.operators.proofs.functions.absolute.Goals as goal

pub returns-in_err-n : goal.returns-in_err-n
returns-in_err-n g c =
    let next = λ (n : ℤ). told (pos (unsigned_abs n)) in
    passed (with_number c.args.operand.now next) c.from_residual.result c.in_err-n.field-0.0
    (c.in_err-n.ensures.fault next) c.from_residual.ensures.1

pub returns : goal.returns
returns g c =
    let n = c.in_ok-n.n in
    let small : FitsSigned w64 n = search rules in
    let read : to_z w64 (of_z w64 n) ≡ n = to_z-of_z w64 n small in
    let given =
    subst
    (λ (m : ℤ).
    SomeIff c.checked_abs.result (FitsSigned w64 (neg_ℤ m)) (pos (unsigned_abs m)))
    read c.checked_abs.ensures in
    one c.args.operand.now n (λ (m : ℤ). told (pos (unsigned_abs m))) c.told.result
    c.in_ok-n.ensures.ok
    (c.told.ensures (pos (unsigned_abs n)) (absolute_fits n c.checked_abs.result small given))
