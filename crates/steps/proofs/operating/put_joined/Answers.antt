use Rattle.std.proofs.Common.{subst}
use Rattle.meanings.specs.View.{Answers}
use Rattle.operators.specs.Binary.{binary}
use Rattle.steps.proofs.operating.put_joined.Goals as goal

pub returns-clause-does : goal.returns-clause-does
returns-clause-does g c = λ s.
    let op = c.args.operator in
    let left = c.args.left in
    let right = c.args.right in
    let answers : Answers (binary op left right) c.binary-value.result =
    subst (λ r. Answers (binary op left r) c.binary-value.result) c.text-2.ensures
    (subst (λ l. Answers (binary op l c.text-2.result) c.binary-value.result) c.text.ensures
    c.binary-value.ensures) in
    c.in_ok-settle.ensures.does (binary op left right) s answers
