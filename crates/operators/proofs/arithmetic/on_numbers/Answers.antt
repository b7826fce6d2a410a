use Rattle.operators.specs.Arithmetic.{computed}
use Rattle.operators.specs.Number.{with_both}
use Rattle.operators.proofs.Asked.{passed}
use Rattle.operators.proofs.arithmetic.on_numbers.Goals as goal

pub returns-in_err-x : goal.returns-in_err-x
returns-in_err-x g c =
    let next = computed c.args.operation in
    passed (with_both c.args.left.now c.args.right.now next) c.from_residual.result
    c.in_err-x.field-0.0 (c.in_err-x.ensures.fault next) c.from_residual.ensures.1
