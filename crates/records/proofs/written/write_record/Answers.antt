use Rattle.std.proofs.Common.{◌++◌, refl}
use Rattle.records.specs.Record.{header}
use Rattle.records.proofs.Sinks.{Takes-then}
use Rattle.records.proofs.written.write_record.Goals as goal

pub returns-clause-text : goal.returns-clause-text
returns-clause-text g c =
    let (lines, are, takes) = c.write_answers.ensures in (
      header ++ lines,
      (lines, refl, are),
      Takes-then g.S.Sink.adds g.S.Sink.has_failed c.args.sink.now c.put_all.new.sink
          c.write_answers.new.sink header lines c.put_all.ensures takes,
    )
