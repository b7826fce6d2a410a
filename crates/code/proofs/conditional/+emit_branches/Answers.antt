use Rattle.std.proofs.Common.{◌≡◌, ◌∙◌, ℕ, ◌+◌, suc, ◌∷◌, drop, sym, ap, arith, rules, subst}
use Rattle.code.specs.Blocks.{BranchesBlock}
use Rattle.code.specs.Branching.{branch_of, branches_of}
use Rattle.code.proofs.Conditionals.{branch_block, from_place}
use Rattle.code.proofs.conditional.+emit_branches.Goals as goal

pub returns : goal.returns
returns g t c =
    let own = c.args.own.now in
    let n : ℕ = c.args.from in
    let tests = (branches_of own).tests in
    let first = branch_of c.in-Some.branch.now in
    let next : suc n ≡ n + 1 = omega arith in
    subst (λ bs. BranchesBlock c.args.code.now.items c.fill-2.new.code.items bs own.otherwise)
    (sym (from_place (λ b. branch_of b) own.tests.items n c.in-Some.branch.now (search rules)
    (search rules) ∙ ap (λ k. first ∷ drop k tests) next))
    (branch_block c.args.code.now.items c.put_expression.new.code.items c.push.new.self.items
    c.put_body.new.code.items c.push-2.new.self.items c.fill.new.code.items
    c.emit_from.new.code.items c.fill-2.new.code.items first (drop (n + 1) tests)
    own.otherwise (search rules) (search rules) (search rules) (search rules) (search rules)
    c.in_ok-emit_from.ensures (search rules))
