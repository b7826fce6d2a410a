use Rattle.std.proofs.Common.{◌≡◌, subst, sym, rules}
use Rattle.state.specs.Evaluated.{told}
use Rattle.meanings.specs.View.{Answers}
use Rattle.operators.specs.Truth.{truth_of}
use Rattle.steps.specs.Does.{Does}
use Rattle.steps.specs.Formulas.{gives, telling}
use Rattle.steps.specs.Moves.{on_top, with_operands}
use Rattle.steps.specs.Spot.{Stuck}
use Rattle.steps.specs.View.{did_of, spot_of}
use Rattle.steps.proofs.Does.{one_on_top, same_does}
use Rattle.steps.proofs.operating.tell.Goals as goal

pub returns-in_default-clause-does : goal.returns-in_default-clause-does
returns-in_default-clause-does g c = λ s.
    let stuck : Stuck ≡ telling (spot_of c.args.spot.now) s = search rules in
    same_does stuck

pub returns-clause-does : goal.returns-clause-does
returns-clause-does g c = λ s.
    let spot = spot_of c.args.spot.now in
    let old = c.args.spot.now.operands.items in
    let new = c.pop.new.self.items in
    let v = c.in-Some.value in
    let answers : Answers (told (truth_of v)) c.told-value.result =
    subst (λ t. Answers (told (truth_of t)) c.told-value.result) c.text.ensures c.told-value.ensures in
    subst (λ os. Does
    (on_top os (λ value below. gives (told (truth_of value)) (with_operands below spot) s))
    (did_of c.in_ok-settle.field-0 c.settle.new.spot s))
    (sym (one_on_top old new c.pop.result v c.pop.ensures.items c.in-Some.is))
    (c.in_ok-settle.ensures.does (told (truth_of v)) s answers)
