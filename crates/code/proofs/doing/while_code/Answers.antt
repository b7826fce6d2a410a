use Rattle.std.proofs.Common.{◌≡◌, false, rules, subst, true}
use Rattle.code.specs.Doing.{Tells}
use Rattle.code.proofs.Doings.{while_alone, while_loop}
use Rattle.code.proofs.doing.while_code.Goals as goal

pub returns-then-not-is_formula : goal.returns-then-not-is_formula
returns-then-not-is_formula g c =
    let is : c.in_ok-is_formula.is_formula ≡ false = search rules in
    while_alone _ c.args.test c.args.body (subst (λ b. Tells b c.args.test) is c.in_ok-is_formula.ensures)
    (search rules)

pub returns : goal.returns
returns g c =
    let is : c.in_ok-is_formula.is_formula ≡ true = search rules in
    while_loop _ c.args.test c.args.body (subst (λ b. Tells b c.args.test) is c.in_ok-is_formula.ensures)
    (search rules)
