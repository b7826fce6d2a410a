use Rattle.std.proofs.Common.{◌≡◌, ◌∙◌, ◌+◌, ◌*◌, ◌++◌, ◌∷◌, [], length, map, rules, sym, ap, arith}
use Rattle.std.proofs.lemmas.List.{length-map}
use Rattle.code.proofs.Doings.{branches_code, conditional, none_left, one_put}
use Rattle.code.specs.Branching.{branch_of, branches_of}
use Rattle.code.specs.declared.instruction.Instruction.TheVariants as i
use Rattle.code.proofs.doing.if_code.Goals as goal

pub branches-init : goal.branches-init
branches-init g c =
    let own = c.args.own in
    let is : c.push.new.self.items ≡ i.Discard ∷ [] = search rules in
    ap (λ cs. cs ++ branches_code (length cs) c.saturating_add-end.result
    (map (λ b. branch_of b) own.tests.items) own.otherwise) is

pub branches-preserved : goal.branches-preserved
branches-preserved g c =
    let own = c.args.own in
    let otherwise = c.branches.otherwise-1 in
    let code = c.branches.code.items in
    let new = c.put_branch.new.code.items in
    let rest = c.pop_front.new.self.items in
    let first = c.in-Some.branch in
    let end = c.saturating_add-end.result in
    let is : c.branches.tests.items ≡ first ∷ rest = search rules in
    let one = one_put code new end (branch_of first) (map (λ b. branch_of b) rest) otherwise
    c.in_ok-put_branch.ensures in
    let other = ap (λ ts. code ++ branches_code (length code) end (map (λ b. branch_of b) ts)
    otherwise) (sym is) in
    let before : code ++ branches_code (length code) end
    (map (λ b. branch_of b) c.branches.tests.items) otherwise
    ≡ i.Discard ∷ branches_code 1 end (map (λ b. branch_of b) own.tests.items) own.otherwise =
    c.branches.invariant in
    one ∙ other ∙ before

pub returns : goal.returns
returns g c =
    let own = c.args.own in
    let otherwise = c.branches.otherwise-1 in
    let code = c.branches.code.items in
    let end = c.saturating_add-end.result in
    let zero = c.in_default.ensures.cases.0 in
    let none : c.branches.tests.items ≡ [] =
    none_left c.branches.tests.items (omega (arith, zero, c.branches.tests.ok)) in
    let count = length-map own.tests.items (λ b. branch_of b) in
    let other = ap (λ ts. code ++ branches_code (length code) end (map (λ b. branch_of b) ts)
    otherwise) (sym none) in
    let before : code ++ branches_code (length code) end
    (map (λ b. branch_of b) c.branches.tests.items) otherwise
    ≡ i.Discard ∷ branches_code 1 end (map (λ b. branch_of b) own.tests.items) own.otherwise =
    c.branches.invariant in
    conditional c.put_last.new.code.items end (branches_of own)
    (c.in_ok-put_last.ensures ∙ other ∙ before)
    (omega (
      arith,
      c.in_ok-code.ensures.exact,
      c.in_ok-code.code.small,
      c.saturating_mul.ensures,
      c.saturating_add-end.ensures,
      c.len.ensures,
      own.tests.ok,
      count,
    ))
