use Rattle.std.proofs.Common.{subst}
use Rattle.meanings.specs.View.{Answers}
use Rattle.operators.specs.Unary.{unary}
use Rattle.steps.proofs.operating.put_prefixed.Goals as goal

pub returns-clause-does : goal.returns-clause-does
returns-clause-does g c = λ s.
    let op = c.args.operator in
    let answers : Answers (unary op c.args.operand) c.unary-value.result =
    subst (λ t. Answers (unary op t) c.unary-value.result) c.text.ensures c.unary-value.ensures in
    c.in_ok-settle.ensures.does (unary op c.args.operand) s answers
