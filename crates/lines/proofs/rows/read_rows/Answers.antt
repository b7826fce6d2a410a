use Rattle.std.proofs.Common.{sym, ◌∙◌}
use Rattle.lines.proofs.Cuts.{some_left}
use Rattle.lines.proofs.RowTexts.{rows_left, rows_none, rows_on}
use Rattle.lines.proofs.rows.read_rows.Goals as goal

pub returns-in_default : goal.returns-in_default
returns-in_default g c = λ rows are.
    let (all, whole, others) = c.loop-rest.invariant in
    let (left, is) = others rows are in
    rows_none left c.loop-rest.rest.now (some_left c.loop-rest.rest.now
    (sym c.is_empty.ensures ∙ c.loop-rest-test.true)) c.in_default.ensures.none is

pub loop-rest-preserved : goal.loop-rest-preserved
loop-rest-preserved g c =
    let (all, whole, others) = c.loop-rest.invariant in
    let (is, blank, cut) = c.in-Some.ensures.row in
    let (more, joined) = rows_on c.args.text.now c.loop-rest.rest.now c.in-Some.after.now
    c.loop-rest.rows.items c.push.new.self.items c.in-Some.row all whole is cut
    c.in_ok-push.ensures.items in (
      more,
      joined,
      λ rows are. let (left, left_are) = others rows are in
          rows_left left c.loop-rest.rest.now c.in-Some.after.now c.in-Some.row left_are is blank
          cut,
    )
