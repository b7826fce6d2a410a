use Rattle.std.proofs.Common.{◌∙◌, sym, ap}
use Rattle.std.specs.Prelude.{reverse}
use Rattle.steps.specs.Moves.{on_top, with_operands}
use Rattle.steps.specs.Storing.{storing}
use Rattle.steps.specs.View.{spot_of, with_parts}
use Rattle.steps.proofs.Does.{one_on_top}
use Rattle.tclparse.specs.Variable.{named}
use Rattle.steps.proofs.storing.keep.Goals as goal

pub returns-clause-does : goal.returns-clause-does
returns-clause-does g c = λ s.
    let t = with_parts c.args.scopes.now s.procedures s.left s in
    let spot = spot_of c.args.spot.now in
    let old = c.args.spot.now.operands.items in
    let new = c.pop.new.self.items in
    c.in_ok-store.ensures.does s
    ∙ ap (λ w. storing (named w) c.in-Some.value (with_operands (reverse new) spot) t)
    c.as_slice.ensures
    ∙ sym (ap (λ os. on_top os (λ value below.
    storing (named c.args.word.now) value (with_operands below spot) t))
    (one_on_top old new c.pop.result c.in-Some.value c.pop.ensures.items c.in-Some.is))
