use Rattle.std.proofs.Common.{◌∙◌, Err, sym, ap, subst}
use Rattle.std.specs.Prelude.{reverse, IfErr}
use Rattle.operators.specs.Truth.{truth_of}
use Rattle.operators.specs.View.{IsNoTruth}
use Rattle.steps.specs.Formulas.{deciding, on_truth}
use Rattle.steps.specs.Moves.{on_top, with_operands}
use Rattle.steps.specs.View.{spot_of}
use Rattle.steps.proofs.Does.{one_on_top}
use Rattle.steps.proofs.Meanings.{no_truth}
use Rattle.steps.proofs.operating.choose.Goals as goal

pub returns-in-Err-Fault-clause-does : goal.returns-in-Err-Fault-clause-does
returns-in-Err-Fault-clause-does g c = λ s.
    let spot = spot_of c.args.spot.now in
    let place = c.args.place in
    let old = c.args.spot.now.operands.items in
    let new = c.pop.new.self.items in
    let v = c.in-Some.value in
    let told = subst (λ t. IfErr c.truth-2.result (IsNoTruth t)) c.text.ensures
    c.truth-2.ensures.fault in
    let is = c.in-Err-Fault.is ∙ ap (λ why. Err why) c.in-Err-Fault.field-0-is in
    let known = c.args.known in
    c.in_ok-failed-in-Err-Fault.ensures.does s
    ∙ no_truth c.truth-2.result c.in-Err-Fault.fault v (with_operands (reverse new) spot) s
    (λ holds. deciding known holds place (with_operands (reverse new) spot) s) is told
    ∙ sym (ap (λ os. on_top os (λ value below. on_truth (truth_of value) (with_operands below spot) s
    (λ holds. deciding known holds place (with_operands below spot) s)))
    (one_on_top old new c.pop.result v c.pop.ensures.items c.in-Some.is))
