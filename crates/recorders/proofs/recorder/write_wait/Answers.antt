use Rattle.std.proofs.Common.{sym, ◌∙◌}
use Rattle.std.specs.List.{list_all}
use Rattle.std.proofs.lemmas.Bool.Decides.{same_from_decides}
use Rattle.recorders.specs.Recorder.{is_row}
use Rattle.recorders.proofs.Told.{rows_decide}
use Rattle.recorders.proofs.recorder.write_wait.Goals as goal

pub returns-then-are_rows : goal.returns-then-are_rows
returns-then-are_rows g c =
    let rows = c.args.rows.now in
    let same = same_from_decides c.are_rows.result (list_all is_row rows) c.are_rows.ensures
    (rows_decide rows) in
    let told = sym same ∙ c.if-are_rows.true in
    rw told c.write_waited.ensures

pub returns-else-are_rows : goal.returns-else-are_rows
returns-else-are_rows g c =
    let rows = c.args.rows.now in
    let same = same_from_decides c.are_rows.result (list_all is_row rows) c.are_rows.ensures
    (rows_decide rows) in
    let told = sym same ∙ c.if-are_rows.false in
    rw told c.write_line.ensures
