use Rattle.std.proofs.Common.{◌++◌, refl}
use Rattle.records.specs.Entry.{second_header}
use Rattle.records.proofs.Sinks.{Takes-then}
use Rattle.records.proofs.written.write_entries.Goals as goal

pub returns-clause-text : goal.returns-clause-text
returns-clause-text g c =
    let (lines, are, takes) = c.write_notes.ensures in (
      second_header ++ lines,
      (lines, refl, are),
      Takes-then g.S.Sink.adds g.S.Sink.has_failed c.args.sink.now c.put_all.new.sink
          c.write_notes.new.sink second_header lines c.put_all.ensures takes,
    )
