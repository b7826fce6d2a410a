use Rattle.std.proofs.Common.{◌++◌, ◌∷◌, [], refl, sym, ◌∙◌}
use Rattle.lines.proofs.Cuts.{some_left}
use Rattle.lines.proofs.RowTexts.{rows_end, rows_left, rows_none, rows_on}
use Rattle.records.proofs.passing.has_rows.Goals as goal

pub loop-rest-init : goal.loop-rest-init
loop-rest-init c = (([], tt, refl), λ rows are. (rows, are))

pub returns-in_default : goal.returns-in_default
returns-in_default c = λ rows are.
    let (left, is) = c.loop-rest.invariant.1 rows are in
    rows_none left c.loop-rest.rest.now (some_left c.loop-rest.rest.now
    (sym c.is_empty.ensures ∙ c.loop-rest-test.true)) c.in_default.ensures.none is

pub loop-rest-preserved : goal.loop-rest-preserved
loop-rest-preserved c =
    let ((before, all, whole), others) = c.loop-rest.invariant in
    let (is, blank, cut) = c.in-Some.ensures.row in
    let row = c.in-Some._row in
    let items = before ++ row ∷ [] in
    let more = rows_on c.args.text.now c.loop-rest.rest.now c.in-Some.after.now before items row all
    whole is cut refl in (
      (items, more.0, more.1),
      λ rows are. let (left, left_are) = others rows are in
          rows_left left c.loop-rest.rest.now c.in-Some.after.now row left_are is blank cut,
    )

pub returns : goal.returns
returns c =
    let ((before, all, whole), others) = c.loop-rest.invariant in (
      before,
      (
        all,
        rows_end c.args.text.now c.loop-rest.rest.now before whole
            (sym c.is_empty.ensures ∙ c.loop-rest-test.false),
      ),
    )
