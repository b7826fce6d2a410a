use Rattle.operators.specs.View.{AreNoNumbers}
use Rattle.operators.proofs.Asked.{no_left, no_right, of_passed}
use Rattle.operators.proofs.numbers.numbers.Goals as goal

pub returns-in_err-x-clause-fault : goal.returns-in_err-x-clause-fault
returns-in_err-x-clause-fault g c =
    let left = c.args.left.now in
    let right = c.args.right.now in
    of_passed (AreNoNumbers left right) c.from_residual.result c.in_err-x.field-0.0
    (no_left left right c.in_err-x.field-0.0 c.in_err-x.ensures.fault) c.from_residual.ensures.1

pub returns-in_err-y-clause-fault : goal.returns-in_err-y-clause-fault
returns-in_err-y-clause-fault g c =
    let left = c.args.left.now in
    let right = c.args.right.now in
    of_passed (AreNoNumbers left right) c.from_residual-in_err-y.result c.in_err-y.field-0.0
    (no_right left right c.in_ok-x.x c.in_err-y.field-0.0 c.in_ok-x.ensures.ok
    c.in_err-y.ensures.fault) c.from_residual-in_err-y.ensures.1
