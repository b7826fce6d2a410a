use Rattle.std.proofs.Common.{◌≡◌, ◌∙◌, ◌-◌, None, length, drop, sym, ap, rules, arith}
use Rattle.std.proofs.lemmas.List.{length-reverse, reverse-reverse}
use Rattle.std.specs.Prelude.{reverse}
use Rattle.steps.specs.Machine.{beginning, function_in, performing}
use Rattle.steps.specs.View.{spot_of}
use Rattle.steps.proofs.Does.{same_does}
use Rattle.steps.proofs.functions.start.Goals as goal

pub returns-in-None-clause-does : goal.returns-in-None-clause-does
returns-in-None-clause-does g c = λ s is.
    let spot = spot_of c.args.spot.now in
    let items = c.args.spot.now.operands.items in
    let operands = reverse items in
    let below = length operands - c.args.n in
    let words = drop below (reverse operands) in
    let alike = ap (λ m. m - c.args.n) (sym (length-reverse items)) in
    let len : c.saturating_sub-below.result ≡ length items - c.args.n = search (rules, arith) in
    let cut : c.upper.result.now ≡ drop (length items - c.args.n) items = search rules in
    let lie : c.upper.result.now ≡ words =
    cut ∙ ap (λ n. drop n items) alike ∙ ap (drop below) (sym (reverse-reverse items)) in
    let none : function_in words s.procedures ≡ None =
    ap (λ ps. function_in words ps) is ∙ ap (λ ws. function_in ws c.args.procs.now) (sym lie)
    ∙ sym c.function_in.ensures ∙ c.in-None.is in
    same_does (c.begin.ensures.does s ∙ ap (λ n. beginning n spot s) (len ∙ alike)
    ∙ sym (ap (λ f. performing f words below spot s) none))
