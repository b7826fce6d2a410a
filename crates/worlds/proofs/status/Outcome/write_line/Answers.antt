use Rattle.std.proofs.Common.{◌++◌, codes, decimal, append_assoc}
use Rattle.records.proofs.Sinks.{Takes-then}
use Rattle.worlds.proofs.status.Outcome.write_line.Goals as goal

pub returns-in-BadRecord : goal.returns-in-BadRecord
returns-in-BadRecord g c =
    let adds = g.E.Sink.adds in
    let failed = g.E.Sink.has_failed in
    let before = c.args.err.now in
    let after = c.put_number-in-BadRecord.new.sink in
    let front = codes "rx: bad record " ++ c.in-BadRecord.name.now ++ codes " at line " in
    let digits = decimal c.in-BadRecord.line in
    let both = Takes-then adds failed before c.put_parts-in-BadRecord.new.sink after front (digits
    ++ codes "\n")
    c.put_parts-in-BadRecord.ensures c.put_number-in-BadRecord.ensures in
    rw c.in-BadRecord.is (rw (append_assoc front digits (codes "\n")) both)
