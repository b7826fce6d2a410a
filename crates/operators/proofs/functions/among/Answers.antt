use Rattle.std.proofs.Common.{◌≡◌, ◌+◌, ℤ, List, ◌∷◌, drop, to_z, w64, FitsSigned, refl, sym, ap, ◌∙◌, rules}
use Rattle.std.proofs.lemmas.Int.{to_z-of_z}
use Rattle.std.specs.List.{fold}
use Rattle.std.proofs.Math.ListN.{drop_of_length-le}
use Rattle.operators.specs.Function.{among, chosen}
use Rattle.operators.specs.Number.{with_all, with_number, told}
use Rattle.operators.proofs.Among.{stops, goes_on, ends}
use Rattle.operators.proofs.Asked.{passed}
use Rattle.operators.proofs.functions.among.Goals as goal

pub returns-in_err-best : goal.returns-in_err-best
returns-in_err-best g c =
    let next = λ (n : ℤ). with_all c.args.rest.now
    (λ (numbers : List ℤ). among c.args.which (n ∷ numbers)) in
    passed (with_number c.args.first.now next) c.from_residual.result c.in_err-best.field-0.0
    (c.in_err-best.ensures.fault next) c.from_residual.ensures.1

pub returns-in_err-number : goal.returns-in_err-number
returns-in_err-number g c =
    let fault = c.in_err-number.field-0.0 in
    let best = to_z w64 c.loop-operand.best-bits in
    passed (with_all (c.args.first.now ∷ c.args.rest.now) (among c.args.which))
    c.from_residual-in_err-number.result fault
    (stops c.args.first.now c.args.rest.now c.args.which c.loop-operand.operand-index
    best c.loop-operand.invariant c.operand-item.result c.loop-operand-test.true
    c.operand-item.is fault c.in_err-number.ensures.fault) c.from_residual-in_err-number.ensures.1

pub loop-operand-preserved : goal.loop-operand-preserved
loop-operand-preserved g c =
    let best = to_z w64 c.loop-operand.best-bits in
    let n = c.in_ok-number.field-0 in
    let small : FitsSigned w64 n = search rules in
    let new : FitsSigned w64 c.chosen-best.result = search rules in
    let next = λ (b : ℤ). with_all (drop (c.loop-operand.operand-index + 1) c.args.rest.now)
    (λ (numbers : List ℤ). told (fold (chosen c.args.which) b numbers)) in
    let read : c.chosen-best.result ≡ chosen c.args.which best n =
    c.chosen-best.ensures ∙ ap (λ m. chosen c.args.which best m) (to_z-of_z w64 n small) in
    goes_on c.args.first.now c.args.rest.now c.args.which c.loop-operand.operand-index
    best c.loop-operand.invariant c.operand-item.result c.loop-operand-test.true
    c.operand-item.is n c.in_ok-number.ensures.ok
    ∙ ap next (sym read ∙ sym (to_z-of_z w64 c.chosen-best.result new))

pub returns : goal.returns
returns g c =
    let best = to_z w64 c.loop-operand.best-bits in
    ends c.args.first.now c.args.rest.now c.args.which c.loop-operand.operand-index
    best c.loop-operand.invariant c.told.result
    (drop_of_length-le c.args.rest.now c.loop-operand-test.false)
    (c.told.ensures best (search rules, refl))
