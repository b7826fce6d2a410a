use Rattle.std.proofs.Common.{◌<◌, length, arith, refl}
use Rattle.choices.proofs.RowsMade.{anew_further, left_further}
use Rattle.choices.proofs.table.Table.refresh.Goals as goal

pub loop-row-preserved : goal.loop-row-preserved
loop-row-preserved g c =
    let below : c.loop-row.row-index < length c.loop-row.rows = omega arith in
    record {
      anew = anew_further c.args.self.now.lines c.args.rows.now c.loop-row.rows
          c.loop-row.row-index _ _ c.row_anew.result below refl c.row_anew.ensures
          c.loop-row.invariant.anew c.loop-row.invariant.left;
      left = left_further c.args.rows.now c.loop-row.rows c.loop-row.row-index
          c.row_anew.result c.loop-row.invariant.left;
    }
