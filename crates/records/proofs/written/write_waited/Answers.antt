use Rattle.std.proofs.Common.{◌++◌, ◌∷◌, codes, refl, subst}
use Rattle.lines.specs.Rows.{rows_text}
use Rattle.records.specs.Sink.{Takes}
use Rattle.records.proofs.Sinks.{Takes-then}
use Rattle.records.proofs.Spelled.{wait_joined}
use Rattle.records.proofs.written.write_waited.Goals as goal

pub returns : goal.returns
returns g c =
    let adds = g.S.Sink.adds in
    let failed = g.S.Sink.has_failed in
    let first = c.args.sink.now in
    let last = c.write_line.new.sink in
    let rows = rows_text c.args.rows.now in
    let wait = codes "wait" ++ rows in
    let (text, is, takes) = c.write_line.ensures in (
      wait ++ 10 ∷ text,
      (wait, text, (c.requires.rows, refl), is, refl),
      subst (λ all. Takes adds failed first all last) (wait_joined rows text)
          (Takes-then adds failed first c.put_all-2.new.sink last (wait ++ codes "\n") text
          (Takes-then adds failed first c.put_rows.new.sink c.put_all-2.new.sink wait (codes "\n")
          (Takes-then adds failed first c.put_all.new.sink c.put_rows.new.sink (codes "wait") rows
          c.put_all.ensures c.put_rows.ensures) c.put_all-2.ensures) takes),
    )
