use Rattle.std.proofs.Common.{◌≡◌, None, [], ◌∷◌, codes, rules, subst}
use Rattle.std.specs.Prelude.{reverse}
use Rattle.kinds.specs.Answers.{Stores}
use Rattle.steps.specs.View.{did_of, spot_of, with_parts}
use Rattle.steps.proofs.Changes.{changes, stores_keep}
use Rattle.steps.proofs.Does.{one_on_top}
use Rattle.tclstate.specs.Pairs.{found}
use Rattle.variables.specs.Incr.{incr}
use Rattle.steps.proofs.direct.increment.Goals as goal

pub returns-clause-does : goal.returns-clause-does
returns-clause-does g c = λ s same.
    let scopes = c.args.scopes.now in
    let new = c.pop.new.self.items in
    let t = with_parts scopes s.procedures s.left s in
    let none : found s.procedures (codes "incr") ≡ None = search rules in
    let kept : c.add_in_place.new.scopes ≡ scopes = search rules in
    let told =
    subst (λ v. Stores (incr (c.in-Some.name ∷ []) v) v c.begin-sum.result c.begin-sum.new.scopes)
    kept c.begin-sum.ensures in
    changes (found s.procedures (codes "incr")) (λ v scopes. incr (v ∷ []) scopes)
    (codes "incr" ∷ []) (spot_of c.args.spot.now) t c.in-Some.name (reverse new)
    (did_of c.in_ok-give_change.field-0 c.give_change.new.spot
    (with_parts c.begin-sum.new.scopes s.procedures s.left s)) none
    (one_on_top c.args.spot.now.operands.items new c.pop.result c.in-Some.name c.pop.ensures.items
    c.in-Some.is)
    (c.in_ok-give_change.ensures.does (incr (c.in-Some.name ∷ []) scopes) scopes c.begin-sum.new.scopes s
    (stores_keep (incr (c.in-Some.name ∷ []) scopes) scopes c.begin-sum.result
    c.begin-sum.new.scopes told))
