use Rattle.std.proofs.Common.{[]}
use Rattle.records.specs.Reading.{place_of}
use Rattle.records.proofs.Readings.{ReadsOn-then}
use Rattle.records.proofs.reader.EntryReader.read_next.Goals as goal

pub returns-clause-next : goal.returns-clause-next
returns-clause-next g c =
    let (front, are, reads) = c.in_ok-take_entry.ensures.next in (
      front,
      are,
      ReadsOn-then g.S.Source.gives g.S.Source.most (place_of c.args.self.now)
          (place_of c.read_ahead.new.self) (place_of c.take_entry.new.self) [] front
          c.in_ok-read_ahead.ensures.reads reads,
    )
