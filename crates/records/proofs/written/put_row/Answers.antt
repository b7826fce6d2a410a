use Rattle.std.proofs.Common.{decimal, subst}
use Rattle.records.specs.Sink.{Takes}
use Rattle.records.proofs.Spelled.{Takes-three, row_joined}
use Rattle.records.proofs.written.put_row.Goals as goal

pub returns : goal.returns
returns g c =
    let adds = g.S.Sink.adds in
    let failed = g.S.Sink.has_failed in
    let row = c.args.row.now in
    subst (λ text. Takes adds failed c.args.sink.now text c.put_number-3.new.sink)
    (row_joined (decimal row.id.0) (decimal row.held) (decimal row.max))
    (Takes-three adds failed c.args.sink.now c.put_number.new.sink c.put_number-2.new.sink
    c.put_number-3.new.sink _ _ _ c.put_number.ensures c.put_number-2.ensures
    c.put_number-3.ensures)
