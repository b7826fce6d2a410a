use Rattle.std.proofs.Common.{ℤ, neg_ℤ}
use Rattle.integers.specs.Bits.{complement}
use Rattle.operators.specs.Number.{with_number, told}
use Rattle.operators.proofs.Asked.{passed}
use Rattle.operators.proofs.apply.unary.Goals as goal

pub returns-in_err-number-in-Negate : goal.returns-in_err-number-in-Negate
returns-in_err-number-in-Negate g c =
    let next = λ (n : ℤ). told (neg_ℤ n) in
    let fault = c.in_err-number-in-Negate.field-0.0 in
    rw c.in-Negate.is
    (passed (with_number c.args.operand.now next) c.from_residual.result fault
    (c.in_err-number-in-Negate.ensures.fault next) c.from_residual.ensures.1)

pub returns-in_err-number-in-Plus : goal.returns-in_err-number-in-Plus
returns-in_err-number-in-Plus g c =
    let next = λ (n : ℤ). told n in
    let fault = c.in_err-number-in-Plus.field-0.0 in
    rw c.in-Plus.is
    (passed (with_number c.args.operand.now next) c.from_residual-in_err-number-in-Plus.result fault
    (c.in_err-number-in-Plus.ensures.fault next) c.from_residual-in_err-number-in-Plus.ensures.1)

pub returns-in_err-number-in-Complement : goal.returns-in_err-number-in-Complement
returns-in_err-number-in-Complement g c =
    let next = λ (n : ℤ). told (complement n) in
    let fault = c.in_err-number-in-Complement.field-0.0 in
    rw c.in-Complement.is
    (passed (with_number c.args.operand.now next)
    c.from_residual-in_err-number-in-Complement.result fault
    (c.in_err-number-in-Complement.ensures.fault next)
    c.from_residual-in_err-number-in-Complement.ensures.1)
