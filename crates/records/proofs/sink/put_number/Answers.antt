use Rattle.std.proofs.Common.{◌++◌, decimal}
use Rattle.records.proofs.Sinks.{Takes-then}
use Rattle.records.proofs.sink.put_number.Goals as goal

pub returns : goal.returns
returns g c =
    let adds = g.S.Sink.adds in
    let failed = g.S.Sink.has_failed in
    let before = c.args.sink.now in
    let mid = c.put_digits.new.sink in
    let first = c.args.before.now in
    let digits = decimal c.args.number in
    Takes-then adds failed before mid c.put_all-2.new.sink (first ++ digits) c.args.after.now
    (Takes-then adds failed before c.put_all.new.sink mid first digits c.put_all.ensures
    c.put_digits.ensures) c.put_all-2.ensures
