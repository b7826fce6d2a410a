use Rattle.std.proofs.Common.{◌≡◌, ◌∙◌, [], ◌∷◌, ◌++◌, map, option_map, sym, ap}
use Rattle.std.proofs.lemmas.List.{map-append}
use Rattle.code.proofs.Branching.{one_more, prefixed}
use Rattle.code.specs.Branches.{Branch, behind, branches}
use Rattle.code.specs.Branching.{branch_of}
use Rattle.code.proofs.branches.Branches.read.Goals as goal

pub branches-preserved : goal.branches-preserved
branches-preserved g c =
    let before = map (λ b. branch_of b) c.branches.tests.items in
    let test = c.in-Some.front.test.now in
    let body = c.in-Some.front.body.now in
    let rest = c.in-Branches.more.now in
    let last : Branch = record { test = test; body = body } in
    let same : record { test = c.in_ok-test.test; body = c.in_ok-body.body } ≡ last =
    ap (λ b. let x : Branch = record { test = c.in_ok-test.test; body = b } in x)
    c.in_ok-body.ensures
    ∙ ap (λ t. let x : Branch = record { test = t; body = body } in x) c.in_ok-test.ensures in
    let pushed : map (λ b. branch_of b) c.push_back.new.self.items ≡ before ++ last ∷ [] =
    ap (λ bs. map (λ b. branch_of b) bs) c.in_ok-push_back.ensures.items
    ∙ map-append (λ b. branch_of b) c.branches.tests.items _
    ∙ ap (λ b. before ++ b ∷ []) same in
    c.branches.invariant
    ∙ ap (option_map (prefixed before)) c.in-Some.ensures.front
    ∙ one_more before test body (behind c.in-Some.front.behind.now)
    ∙ ap (option_map (prefixed (before ++ last ∷ []))) (sym c.in-Branches.ensures.behind)
    ∙ ap (λ bs. option_map (prefixed bs) (branches rest)) (sym pushed)
