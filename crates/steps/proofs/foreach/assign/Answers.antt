use Rattle.std.proofs.Common.{◌≡◌, ◌∙◌, ◌<◌, ◌-◌, Some, arith, length, rules, refl}
use Rattle.std.specs.Prelude.{slice_get}
use Rattle.steps.specs.Storing.{storing}
use Rattle.steps.specs.View.{spot_of, with_parts}
use Rattle.steps.proofs.Elements.{some_above, takes_one}
use Rattle.steps.proofs.Strings.{last_on_top}
use Rattle.tclparse.specs.Variable.{named}
use Rattle.steps.proofs.foreach.assign.Goals as goal

pub returns-clause-does : goal.returns-clause-does
returns-clause-does g c = λ s.
    let t = with_parts c.args.scopes.now s.procedures s.left s in
    let spot = spot_of c.args.spot.now in
    let word = c.args.word.now in
    let marks = c.args.spot.now.marks.items in
    let operands = c.args.spot.now.operands.items in
    let m = c.in-Some.mark.now in
    let top : Some m ≡ slice_get marks (length marks - 1) = search rules in
    let less : m < length operands = omega (arith, c.if-len-mark.false, c.len.ensures) in
    c.in_ok-keep.ensures.does s
    ∙ takes_one spot m _ (last_on_top marks m top) (λ value after. storing (named word) value after t)
    spot.operands (some_above operands m less) refl
