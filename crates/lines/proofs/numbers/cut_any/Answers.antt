use Rattle.std.proofs.Common.{◌∙◌}
use Rattle.lines.proofs.Numerals.{number_counted}
use Rattle.lines.proofs.numbers.cut_any.Goals as goal

pub returns-in_err-number-clause-none : goal.returns-in_err-number-clause-none
returns-in_err-number-clause-none c = rw c.from_residual.ensures (λ n rest below ends e.
    c.in_err-number.ensures.none n below (c.split_at.ensures.front
    ∙ number_counted c.args.text.now rest c.count_numerals.result n below ends
    c.count_numerals.ensures.numerals c.count_numerals.ensures.ends e))
