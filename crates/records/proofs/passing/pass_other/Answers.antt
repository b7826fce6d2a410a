use Rattle.std.proofs.Common.{sym, ◌∙◌}
use Rattle.lines.proofs.Cuts.{no_cut, same_cut}
use Rattle.lines.proofs.Lines.{Lacks-line}
use Rattle.records.proofs.passing.pass_other.Goals as goal

pub returns-in_err-line : goal.returns-in_err-line
returns-in_err-line c = rw c.from_residual.ensures (λ reply line rest is e.
    absurd (no_cut 10 c.args.text.now line rest c.in_err-line.ensures.none e))

pub returns-else-is_other : goal.returns-else-is_other
returns-else-is_other c = λ reply line rest is e.
    let (found, lacks) = c.in_ok-line.ensures.found in
    let same = (same_cut 10 c.in_ok-line.line.now line c.in_ok-line.rest.now rest lacks
    (Lacks-line reply line is) (sym found ∙ e)).0 in
    let none = rw c.if-is_other.false at c.is_other.ensures in
    none reply (rw (sym same) at is)
