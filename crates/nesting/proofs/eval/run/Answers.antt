use Rattle.std.proofs.Common.{◌≡◌, ◌∙◌, suc, rules, arith}
use Rattle.acts.specs.Flaw as flaw
use Rattle.state.specs.Prelude.{text_of, Leaves, Error}
use Rattle.nesting.specs.Eval.{next_of, passed}
use Rattle.nesting.proofs.Nestings.{nests_after, over, script_nests}
use Rattle.state.proofs.Inside.{inside_over, text_reaches}
use Rattle.nesting.specs.declared.eval.Held.TheVariants as held
use Rattle.nesting.proofs.eval.run.Goals as goal

pub returns-in_default-clause-nests : goal.returns-in_default-clause-nests
returns-in_default-clause-nests g c = λ s fits.
    let script = c.in_ok-script.script in
    let levels = c.args.levels in
    let zero : levels ≡ 0 = search (rules, arith) in
    nests_after next_of _ _ _ _
    (text_reaches script levels c.args.text.now s passed c.in_ok-script.ensures.tree)
    (over next_of _ c.in_ok-raised.field-0
    (Leaves Error (text_of flaw.TooManyNested)) s _ fits c.in_ok-raised.ensures
    (inside_over levels script s passed zero))

pub returns-clause-nests : goal.returns-clause-nests
returns-clause-nests g c = λ s fits.
    let script = c.in_ok-script.script in
    let levels = c.args.levels in
    let deeper : levels ≡ suc c.in-Some.inner = search (rules, arith) in
    nests_after next_of _ _ _ _
    (text_reaches script levels c.args.text.now s passed c.in_ok-script.ensures.tree)
    (script_nests next_of _ script levels c.in-Some.inner held.Script s fits deeper)
