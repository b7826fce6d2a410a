use Rattle.std.proofs.Common.{◌++◌, codes, decimal, refl, arith}
use Rattle.acts.specs.Id.{id_text}
use Rattle.hex.specs.Hex.{IsBytes, encode_lower}
use Rattle.records.proofs.Sinks.{Takes-then}
use Rattle.records.proofs.Spelled.{arrival_joined}
use Rattle.records.proofs.written.put_arrival.Goals as goal

pub returns : goal.returns
returns g c =
    let adds = g.S.Sink.adds in
    let failed = g.S.Sink.has_failed in
    let first = c.args.sink.now in
    let last = c.put_all.new.sink in
    let bytes = c.args.bytes.now in
    let front = (codes "arrive exp" ++ decimal c.args.id.0) ++ codes " " in
    let digits = encode_lower bytes in
    let line = codes "arrive " ++ (id_text c.args.id.0 ++ (codes " " ++ digits)) in
    let small : IsBytes bytes = λ i. let fits = c.type_inv.bytes i in omega arith in (
      (front ++ digits) ++ codes "\n",
      (line, (omega arith, small, refl), arrival_joined (decimal c.args.id.0) digits),
      Takes-then adds failed first c.put_hex.new.sink last (front ++ digits) (codes "\n")
          (Takes-then adds failed first c.put_number.new.sink c.put_hex.new.sink front digits
          c.put_number.ensures c.put_hex.ensures) c.put_all.ensures,
    )
