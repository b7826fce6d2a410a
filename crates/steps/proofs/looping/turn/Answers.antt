use Rattle.std.proofs.Common.{◌∙◌, sym, ap, rules}
use Rattle.std.specs.Prelude.{reverse}
use Rattle.operators.specs.Truth.{truth_of}
use Rattle.steps.specs.Formulas.{on_truth}
use Rattle.steps.specs.Loops.{turned}
use Rattle.steps.specs.Moves.{on_top, with_operands}
use Rattle.steps.specs.View.{spot_of, with_parts}
use Rattle.steps.proofs.Does.{one_on_top}
use Rattle.steps.proofs.Meanings.{in_bits, known_truth}
use Rattle.steps.proofs.looping.turn.Goals as goal

pub returns-in_ok-turn_where-in-Some-number_in-clause-does :
    goal.returns-in_ok-turn_where-in-Some-number_in-clause-does
returns-in_ok-turn_where-in-Some-number_in-clause-does g c = λ s.
    let spot = spot_of c.args.spot.now in
    let t = with_parts s.scopes s.procedures c.args.left.now s in
    let body = c.args.body in
    let end = c.args.end in
    let old = c.args.spot.now.operands.items in
    let new = c.pop.new.self.items in
    let v = c.in-Some.value in
    c.in_ok-turn_where-in-Some-number_in.ensures.does s
    ∙ known_truth v c.holds.result (with_operands (reverse new) spot) t
    (λ holds. turned body end holds (with_operands (reverse new) spot) t)
    (c.holds.ensures v (in_bits v c.in-Some-number_in.n (search rules)
    (sym c.number_in.ensures ∙ c.in-Some-number_in.is)))
    ∙ sym (ap (λ os. on_top os (λ value below. on_truth (truth_of value) (with_operands below spot) t
    (λ holds. turned body end holds (with_operands below spot) t)))
    (one_on_top old new c.pop.result v c.pop.ensures.items c.in-Some.is))

pub returns-in_ok-turn_by_word-in-None-clause-does :
    goal.returns-in_ok-turn_by_word-in-None-clause-does
returns-in_ok-turn_by_word-in-None-clause-does g c = λ s.
    let spot = spot_of c.args.spot.now in
    let t = with_parts s.scopes s.procedures c.args.left.now s in
    let body = c.args.body in
    let end = c.args.end in
    let old = c.args.spot.now.operands.items in
    let new = c.pop.new.self.items in
    let v = c.in-Some.value in
    c.in_ok-turn_by_word-in-None.ensures.does s
    ∙ sym (ap (λ os. on_top os (λ value below. on_truth (truth_of value) (with_operands below spot) t
    (λ holds. turned body end holds (with_operands below spot) t)))
    (one_on_top old new c.pop.result v c.pop.ensures.items c.in-Some.is))
