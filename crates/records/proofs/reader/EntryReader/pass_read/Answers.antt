use Rattle.std.proofs.Common.{[]}
use Rattle.records.specs.Reading.{place_of}
use Rattle.records.proofs.Readings.{ReadsOn-then}
use Rattle.records.proofs.reader.EntryReader.pass_read.Goals as goal

pub returns-clause-next : goal.returns-clause-next
returns-clause-next g c =
    let (note, front, are, number, reads) = c.in_ok-pass_entry.ensures.next in (
      note,
      front,
      are,
      number,
      ReadsOn-then g.S.Source.gives g.S.Source.most (place_of c.args.self.now)
          (place_of c.read_ahead.new.self) (place_of c.pass_entry.new.self) [] front
          c.in_ok-read_ahead.ensures.reads reads,
    )
