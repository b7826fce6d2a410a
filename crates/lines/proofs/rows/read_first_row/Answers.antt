use Rattle.std.proofs.Common.{◌++◌, drop, codes, sym, ap, subst, ◌∙◌}
use Rattle.lines.specs.Cut.{StartsAt}
use Rattle.lines.specs.Rows.{row_text}
use Rattle.lines.proofs.Cuts.{no_prefix}
use Rattle.lines.proofs.RowTexts.{ends_blank, same_first}
use Rattle.lines.proofs.rows.read_first_row.Goals as goal

pub returns-in_err-behind-clause-none : goal.returns-in_err-behind-clause-none
returns-in_err-behind-clause-none c = rw c.from_residual.ensures (λ row rest is blank e.
    no_prefix c.args.text.now (codes " ") (row_text row ++ rest) c.in_err-behind.ensures.cases e)

pub returns-in_err-row-clause-none : goal.returns-in_err-row-clause-none
returns-in_err-row-clause-none c = rw c.from_residual-in_err-row.ensures (λ row rest is blank e.
    let (test, cut, room) = c.in_ok-behind.ensures.cases in
    c.in_err-row.ensures.none row rest is (ends_blank rest blank) (cut ∙ ap (drop 1) e))

pub returns-else-is_cut-clause-none : goal.returns-else-is_cut-clause-none
returns-else-is_cut-clause-none c = λ row rest is blank e.
    let (test, behind, room) = c.in_ok-behind.ensures.cases in
    let (is_row, ends, cut) = c.in_ok-row.ensures.row in
    let same = (same_first c.in_ok-row.row row c.in_ok-row.rest.now rest is_row is ends
    (ends_blank rest blank) (sym cut ∙ behind ∙ ap (drop 1) e)).1 in
    let other = rw c.if-is_cut.false at c.is_cut.ensures in
    other (subst (StartsAt 32) (sym same) blank)
