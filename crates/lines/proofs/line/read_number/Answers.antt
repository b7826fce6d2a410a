use Rattle.std.proofs.Common.{◌++◌, decimal, ap, ◌∙◌}
use Rattle.lines.proofs.Cuts.{no_prefix, prefix_split, some_weaker}
use Rattle.lines.proofs.line.read_number.Goals as goal

pub returns-in_err-digits-clause-none : goal.returns-in_err-digits-clause-none
returns-in_err-digits-clause-none c = rw c.from_residual.ensures (λ n below e.
    no_prefix c.args.line.now c.args.word.now (decimal n) c.in_err-digits.ensures.cases e)

pub returns-clause-number : goal.returns-clause-number
returns-clause-number c =
    let (test, is, room) = c.in_ok-digits.ensures.cases in
    some_weaker c.read_decimal.result c.read_decimal.ensures.spelled
    (λ n e. prefix_split c.args.line.now c.args.word.now c.in_ok-digits.digits.now test is
    ∙ ap (λ digits. c.args.word.now ++ digits) e)
