use Rattle.std.proofs.Common.{◌∙◌, sym, ap, if◌then◌else◌, rules}
use Rattle.std.specs.Prelude.{reverse}
use Rattle.operators.specs.Truth.{truth_of}
use Rattle.steps.specs.Formulas.{on_truth}
use Rattle.steps.specs.Moves.{jumping, on_top, with_operands}
use Rattle.steps.specs.Spot.{Went}
use Rattle.steps.specs.View.{spot_of}
use Rattle.steps.proofs.Does.{one_on_top}
use Rattle.steps.proofs.Meanings.{in_bits, known_truth}
use Rattle.steps.proofs.operating.jump_unless.Goals as goal

pub returns-in-Some-number_in-clause-does : goal.returns-in-Some-number_in-clause-does
returns-in-Some-number_in-clause-does g c = λ s.
    let spot = spot_of c.args.spot.now in
    let place = c.args.place in
    let old = c.args.spot.now.operands.items in
    let new = c.pop.new.self.items in
    let v = c.in-Some.value in
    c.jump_where_not.ensures.does s
    ∙ known_truth v c.holds.result (with_operands (reverse new) spot) s
    (λ holds. if holds then Went (with_operands (reverse new) spot) s
    else jumping place (with_operands (reverse new) spot) s)
    (c.holds.ensures v (in_bits v c.in-Some-number_in.n (search rules)
    (sym c.number_in.ensures ∙ c.in-Some-number_in.is)))
    ∙ sym (ap (λ os. on_top os (λ value below. on_truth (truth_of value) (with_operands below spot) s
    (λ holds. if holds then Went (with_operands below spot) s
    else jumping place (with_operands below spot) s)))
    (one_on_top old new c.pop.result v c.pop.ensures.items c.in-Some.is))

pub returns-in_ok-jump_unless_word-in-None-clause-does :
    goal.returns-in_ok-jump_unless_word-in-None-clause-does
returns-in_ok-jump_unless_word-in-None-clause-does g c = λ s.
    let spot = spot_of c.args.spot.now in
    let place = c.args.place in
    let old = c.args.spot.now.operands.items in
    let new = c.pop.new.self.items in
    let v = c.in-Some.value in
    c.in_ok-jump_unless_word-in-None.ensures.does s
    ∙ sym (ap (λ os. on_top os (λ value below. on_truth (truth_of value) (with_operands below spot) s
    (λ holds. if holds then Went (with_operands below spot) s
    else jumping place (with_operands below spot) s)))
    (one_on_top old new c.pop.result v c.pop.ensures.items c.in-Some.is))
