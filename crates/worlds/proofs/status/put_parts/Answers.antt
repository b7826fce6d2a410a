use Rattle.std.proofs.Common.{◌++◌}
use Rattle.records.proofs.Sinks.{Takes-then}
use Rattle.worlds.proofs.status.put_parts.Goals as goal

pub returns : goal.returns
returns g c =
    let adds = g.S.Sink.adds in
    let failed = g.S.Sink.has_failed in
    let before = c.args.sink.now in
    let mid = c.put_all-2.new.sink in
    let first = c.args.first.now in
    let second = c.args.second.now in
    Takes-then adds failed before mid c.put_all-3.new.sink (first ++ second) c.args.third.now
    (Takes-then adds failed before c.put_all.new.sink mid first second c.put_all.ensures
    c.put_all-2.ensures) c.put_all-3.ensures
