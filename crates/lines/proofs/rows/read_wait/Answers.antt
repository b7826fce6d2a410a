use Rattle.std.proofs.Common.{◌∷◌, ◌++◌, drop, codes, ap, sym, ◌∙◌}
use Rattle.lines.specs.Rows.{rows_text}
use Rattle.lines.proofs.Cuts.{no_cut, no_prefix, same_cut}
use Rattle.lines.proofs.RowTexts.{Lacks-rows, wait_split}
use Rattle.lines.proofs.rows.read_wait.Goals as goal

pub returns-in_default : goal.returns-in_default
returns-in_default g c = λ (rows, line, rest, is, whole).
    no_prefix c.args.text.now (codes "wait") (rows_text rows ++ 10 ∷ rest)
    c.in_default.ensures.cases (wait_split c.args.text.now line rest rows is whole)

pub returns-in_default-cut_at : goal.returns-in_default-cut_at
returns-in_default-cut_at g c = λ (rows, line, rest, is, whole).
    let (test, cut, room) = c.in-Some.ensures.cases in
    no_cut 10 c.in-Some.behind.now (rows_text rows) rest c.in_default-cut_at.ensures.none
    (cut ∙ ap (drop 4) (wait_split c.args.text.now line rest rows is whole))

pub returns-in-None : goal.returns-in-None
returns-in-None g c = λ (rows, line, rest, is, whole).
    let (test, cut, room) = c.in-Some.ensures.cases in
    let (found, lacks) = c.in-Some-cut_at.ensures.found in
    let same = (same_cut 10 c.in-Some-cut_at.line.now (rows_text rows) c.in-Some-cut_at.rest.now
    rest lacks (Lacks-rows rows is.0)
    (sym found ∙ cut ∙ ap (drop 4) (wait_split c.args.text.now line rest rows is whole))).0 in
    let none = rw c.in-None.is at c.in_ok-rows.ensures in
    none rows (is.0, same)
