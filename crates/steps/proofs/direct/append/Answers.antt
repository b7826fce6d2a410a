use Rattle.std.proofs.Common.{◌≡◌, None, [], ◌∷◌, codes, rules, subst}
use Rattle.std.specs.Prelude.{reverse}
use Rattle.kinds.specs.Answers.{Keeps}
use Rattle.steps.specs.View.{did_of, spot_of, with_parts}
use Rattle.steps.proofs.Changes.{changes}
use Rattle.steps.proofs.Does.{one_on_top}
use Rattle.tclstate.specs.Pairs.{found}
use Rattle.variables.specs.Append.{append}
use Rattle.steps.proofs.direct.append.Goals as goal

pub returns-clause-does : goal.returns-clause-does
returns-clause-does g c = λ s same.
    let scopes = c.args.scopes.now in
    let new = c.pop.new.self.items in
    let t = with_parts scopes s.procedures s.left s in
    let none : found s.procedures (codes "append") ≡ None = search rules in
    let shared : c.in_ok-share.field-0 ≡ c.args.name.now = search rules in
    let told =
    subst (λ n. Keeps (append (n ∷ c.in-Some.text ∷ []) scopes) scopes c.begin-whole.result
    c.begin-whole.new.scopes) shared c.begin-whole.ensures in
    changes (found s.procedures (codes "append")) (λ v scopes. append (c.args.name.now ∷ v ∷ []) scopes)
    (codes "append" ∷ c.args.name.now ∷ []) (spot_of c.args.spot.now) t c.in-Some.text (reverse new)
    (did_of c.in_ok-give_change.field-0 c.give_change.new.spot
    (with_parts c.begin-whole.new.scopes s.procedures s.left s)) none
    (one_on_top c.args.spot.now.operands.items new c.pop.result c.in-Some.text c.pop.ensures.items
    c.in-Some.is)
    (c.in_ok-give_change.ensures.does (append (c.args.name.now ∷ c.in-Some.text ∷ []) scopes) scopes
    c.begin-whole.new.scopes s
    told)
