use Rattle.std.proofs.Common.{◌+◌, drop}
use Rattle.std.proofs.Math.ListN.{drop_of_length-le}
use Rattle.std.proofs.lemmas.List.{drop_more}
use Rattle.records.proofs.Spelled.{rows_done, rows_written}
use Rattle.records.proofs.written.put_rows.Goals as goal

pub loop-row-preserved : goal.loop-row-preserved
loop-row-preserved g c =
    let rows = c.args.rows.now in
    let i = c.loop-row.row-index in
    rows_written g.S.Sink.adds g.S.Sink.has_failed rows (drop i rows) (drop (i + 1) rows) _
    c.args.sink.now c.loop-row.sink c.put_row.new.sink (drop_more rows i _ c.loop-row-test.true)
    c.loop-row.invariant c.put_row.ensures

pub returns : goal.returns
returns g c =
    let rows = c.args.rows.now in
    let i = c.loop-row.row-index in
    rows_done g.S.Sink.adds g.S.Sink.has_failed rows (drop i rows) c.args.sink.now c.loop-row.sink
    (drop_of_length-le rows c.loop-row-test.false) c.loop-row.invariant
