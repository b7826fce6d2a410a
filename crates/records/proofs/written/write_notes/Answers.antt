use Rattle.std.proofs.Common.{◌++◌, [], map, refl, sym, subst, append-nil, arith}
use Rattle.std.proofs.Math.ListN.{drop_of_length-le}
use Rattle.records.specs.Entry.{note_of}
use Rattle.records.specs.Sink.{Takes}
use Rattle.records.proofs.Spelled.{entries_on, item_at}
use Rattle.records.proofs.written.write_notes.Goals as goal

pub loop-entry-preserved : goal.loop-entry-preserved
loop-entry-preserved g c =
    let entries = c.args.entries.now in
    let i = c.loop-entry.entry-index in
    let x = c.entry-item.result in
    entries_on g.S.Sink.adds g.S.Sink.has_failed entries i x c.args.sink.now c.loop-entry.sink
    c.write_entry.new.sink (item_at entries i x c.loop-entry-test.true c.entry-item.is) note_of
    (map note_of entries) c.loop-entry.invariant c.write_entry.ensures

pub returns : goal.returns
returns g c =
    let entries = c.args.entries.now in
    let i = c.loop-entry.entry-index in
    let (told, done, takes, so_far) = c.loop-entry.invariant in
    let empty = drop_of_length-le entries {i = i} (omega (arith, c.loop-entry-test.false)) in (
      done ++ [],
      so_far [] (rw empty refl),
      subst (λ text. Takes g.S.Sink.adds g.S.Sink.has_failed c.args.sink.now text
          c.loop-entry.sink) (sym (append-nil done)) takes,
    )
