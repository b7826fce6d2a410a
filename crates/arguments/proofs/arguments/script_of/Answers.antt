use Rattle.std.proofs.Common.{◌≡◌, rules, sym, ◌∙◌}
use Rattle.std.specs.Prelude.{codes}
use Rattle.arguments.proofs.Readings.{flag_alone, flag_before}
use Rattle.arguments.proofs.arguments.script_of.Goals as goal

pub returns-then-is_empty-clause-none : goal.returns-then-is_empty-clause-none
returns-then-is_empty-clause-none g c =
    let flag : c.in-Some.first.now.items ≡ codes "-f" = search rules in
    flag_alone c.args.words.now c.in-Some.behind.now c.in-Some.first.now c.in-Some.ensures.cases.0
    (sym c.is_empty.ensures ∙ c.if-is_empty.true) flag

pub returns-else-is_empty-clause-script : goal.returns-else-is_empty-clause-script
returns-else-is_empty-clause-script g c =
    let flag : c.in-Some.first.now.items ≡ codes "-f" = search rules in
    flag_before c.args.words.now c.in-Some.behind.now c.in-Some.first.now c.in-Some.ensures.cases.0
    (sym c.is_empty.ensures ∙ c.if-is_empty.false) flag
