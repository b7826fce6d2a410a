use Rattle.std.proofs.Common.{◌∙◌, Some, sym, ap}
use Rattle.std.specs.Prelude.{reverse}
use Rattle.steps.specs.Machine.{reading}
use Rattle.steps.specs.Moves.{on_top, with_operands}
use Rattle.steps.specs.View.{spot_of}
use Rattle.steps.proofs.Does.{one_on_top}
use Rattle.steps.proofs.stepping.read_element.Goals as goal

pub returns-clause-does : goal.returns-clause-does
returns-clause-does g c = λ s same.
    let name = c.args.name.now in
    let spot = spot_of c.args.spot.now in
    let old = c.args.spot.now.operands.items in
    let new = c.pop.new.self.items in
    c.in_ok-read.ensures.does s same
    ∙ ap (λ n. reading n (Some c.as_slice-2.result.now) (with_operands (reverse new) spot) s)
    c.as_slice.ensures
    ∙ ap (λ i. reading name (Some i) (with_operands (reverse new) spot) s) c.as_slice-2.ensures
    ∙ sym (ap (λ os. on_top os (λ index below. reading name (Some index) (with_operands below spot)
    s))
    (one_on_top old new c.pop.result c.in-Some.index c.pop.ensures.items c.in-Some.is))
