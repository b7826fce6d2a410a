use Rattle.std.proofs.Common.{◌≡◌, ◌∙◌, IfSome, subst, sym, ap, rules}
use Rattle.std.specs.Fmt.{signed_decimal}
use Rattle.std.specs.Prelude.{reverse}
use Rattle.meanings.specs.Meaning.{Gives}
use Rattle.operators.specs.Numeric.{GivesNumber}
use Rattle.operators.specs.Unary.{unary}
use Rattle.steps.specs.Does.{Does}
use Rattle.steps.specs.Formulas.{gives, prefixing}
use Rattle.steps.specs.Moves.{on_top, with_operands}
use Rattle.steps.specs.Spot.{Stuck, Went, with_top}
use Rattle.steps.specs.View.{did_of, spot_of}
use Rattle.steps.proofs.Does.{one_on_top, same_does}
use Rattle.steps.proofs.operating.prefix.Goals as goal

pub returns-in_default-clause-does : goal.returns-in_default-clause-does
returns-in_default-clause-does g c = λ s.
    let stuck : Stuck ≡ prefixing c.args.operator (spot_of c.args.spot.now) s = search rules in
    same_does stuck

pub returns-in_ok-put-in-Some-number_of_one-clause-does :
    goal.returns-in_ok-put-in-Some-number_of_one-clause-does
returns-in_ok-put-in-Some-number_of_one-clause-does g c = λ s.
    let spot = spot_of c.args.spot.now in
    let op = c.args.operator in
    let old = c.args.spot.now.operands.items in
    let new = c.pop.new.self.items in
    let v = c.in-Some.value in
    let n = c.in-Some-number_of_one.n in
    let below = with_operands (reverse new) spot in
    let did = did_of c.in_ok-put-in-Some-number_of_one.field-0 c.put.new.self s in
    let is : unary op v ≡ Gives (signed_decimal n) =
    subst (λ r. IfSome r (GivesNumber (unary op v))) c.in-Some-number_of_one.is
    c.number_of_one.ensures in
    let text : c.in_ok-int-in-Some-number_of_one.field-0 ≡ signed_decimal n = search rules in
    let put : did ≡ Went (with_top (signed_decimal n) below) s =
    c.in_ok-put-in-Some-number_of_one.ensures.does s
    ∙ ap (λ t. Went (with_top t below) s) text in
    subst (λ os. Does
    (on_top os (λ value below. gives (unary op value) (with_operands below spot) s)) did)
    (sym (one_on_top old new c.pop.result v c.pop.ensures.items c.in-Some.is))
    (subst (λ m. Does (gives m below s) did) (sym is) (same_does put))

pub returns-in_ok-put_prefixed-in-None-clause-does :
    goal.returns-in_ok-put_prefixed-in-None-clause-does
returns-in_ok-put_prefixed-in-None-clause-does g c = λ s.
    let spot = spot_of c.args.spot.now in
    let op = c.args.operator in
    let old = c.args.spot.now.operands.items in
    let new = c.pop.new.self.items in
    let v = c.in-Some.value in
    subst (λ os. Does
    (on_top os (λ value below. gives (unary op value) (with_operands below spot) s))
    (did_of c.in_ok-put_prefixed-in-None.field-0 c.put_prefixed.new.spot s))
    (sym (one_on_top old new c.pop.result v c.pop.ensures.items c.in-Some.is))
    (c.in_ok-put_prefixed-in-None.ensures.does s)
