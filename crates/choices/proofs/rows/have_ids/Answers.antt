use Rattle.std.proofs.Common.{◌≡◌, get_or, arith, rules}
use Rattle.acts.specs.declared.row.Row.{Row}
use Rattle.choices.specs.Lines.{id_of}
use Rattle.choices.proofs.RowsKept.{ids_further}
use Rattle.choices.proofs.rows.have_ids.Goals as goal

pub loop-place-preserved : goal.loop-place-preserved
loop-place-preserved c =
    let rows = c.args.rows.now in
    let ids = c.args.ids.now in
    let place = c.loop-place.place in
    let d : Row = record { id = id_of 0; held = 0; max = 0; want = 0 } in
    let same : (get_or rows place d).id.0 ≡ (get_or ids place (id_of 0)).0 = search rules in
    ids_further rows ids place d (id_of 0) (omega arith) (omega arith) same c.loop-place.invariant
