use Rattle.std.proofs.Common.{◌≡◌, ◌∙◌, IfSome, subst, sym, ap, rules}
use Rattle.std.specs.Prelude.{reverse}
use Rattle.std.specs.Fmt.{signed_decimal}
use Rattle.meanings.specs.Meaning.{Gives}
use Rattle.operators.specs.Binary.{binary}
use Rattle.operators.specs.Numeric.{GivesNumber}
use Rattle.steps.specs.Does.{Does}
use Rattle.steps.specs.Formulas.{gives, joining_both}
use Rattle.steps.specs.Moves.{on_top, with_operands}
use Rattle.steps.specs.Spot.{Stuck, Went, with_top}
use Rattle.steps.specs.View.{did_of, spot_of}
use Rattle.steps.proofs.Does.{same_does, two_on_top}
use Rattle.steps.proofs.operating.join_both.Goals as goal

pub returns-in_default-clause-does : goal.returns-in_default-clause-does
returns-in_default-clause-does g c = λ s.
    let stuck : Stuck ≡ joining_both c.args.operator (spot_of c.args.spot.now) s = search rules in
    same_does stuck

pub returns-in_default-pop-clause-does : goal.returns-in_default-pop-clause-does
returns-in_default-pop-clause-does g c = λ s.
    let stuck : Stuck ≡ joining_both c.args.operator (spot_of c.args.spot.now) s = search rules in
    same_does stuck

pub returns-in_ok-put-in-Some-number_of_both-clause-does :
    goal.returns-in_ok-put-in-Some-number_of_both-clause-does
returns-in_ok-put-in-Some-number_of_both-clause-does g c = λ s.
    let spot = spot_of c.args.spot.now in
    let op = c.args.operator in
    let old = c.args.spot.now.operands.items in
    let more = c.pop.new.self.items in
    let new = c.pop-2.new.self.items in
    let right = c.in-Some.right in
    let left = c.in-Some-pop.left in
    let n = c.in-Some-number_of_both.n in
    let below = with_operands (reverse new) spot in
    let did = did_of c.in_ok-put-in-Some-number_of_both.field-0 c.put.new.self s in
    let is : binary op left right ≡ Gives (signed_decimal n) =
    subst (λ r. IfSome r (GivesNumber (binary op left right))) c.in-Some-number_of_both.is
    c.number_of_both.ensures in
    let text : c.in_ok-int-in-Some-number_of_both.field-0 ≡ signed_decimal n = search rules in
    let put : did ≡ Went (with_top (signed_decimal n) below) s =
    c.in_ok-put-in-Some-number_of_both.ensures.does s
    ∙ ap (λ v. Went (with_top v below) s) text in
    subst (λ os. Does
    (on_top os (λ r rest. on_top rest (λ l below.
    gives (binary op l r) (with_operands below spot) s))) did)
    (sym (two_on_top old more new c.pop.result c.pop-2.result right left c.pop.ensures.items
    c.in-Some.is c.pop-2.ensures.items c.in-Some-pop.is))
    (subst (λ m. Does (gives m below s) did) (sym is) (same_does put))

pub returns-in_ok-put_joined-in-None-clause-does :
    goal.returns-in_ok-put_joined-in-None-clause-does
returns-in_ok-put_joined-in-None-clause-does g c = λ s.
    let spot = spot_of c.args.spot.now in
    let op = c.args.operator in
    let old = c.args.spot.now.operands.items in
    let more = c.pop.new.self.items in
    let new = c.pop-2.new.self.items in
    subst (λ os. Does
    (on_top os (λ r rest. on_top rest (λ l below.
    gives (binary op l r) (with_operands below spot) s)))
    (did_of c.in_ok-put_joined-in-None.field-0 c.put_joined.new.spot s))
    (sym (two_on_top old more new c.pop.result c.pop-2.result c.in-Some.right c.in-Some-pop.left
    c.pop.ensures.items c.in-Some.is c.pop-2.ensures.items c.in-Some-pop.is))
    (c.in_ok-put_joined-in-None.ensures.does s)
