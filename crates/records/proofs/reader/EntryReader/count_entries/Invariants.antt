use Rattle.std.proofs.Common.{length, ◌+◌}
use Rattle.records.specs.Reading.{KnowsEnd, place_of, unused}
use Rattle.records.proofs.Readings.{AreSome}
use Rattle.records.proofs.reader.EntryReader.count_entries.Given as goal

abbrev pub invariant-loop-lines : goal.invariant-loop-lines
invariant-loop-lines g l =
    AreSome g.S.Source.gives g.S.Source.most (place_of l.fn.self) l.count l.line
    (place_of l.self)
    × KnowsEnd g.S.Source.gives l.self

abbrev pub decreases-loop-lines : goal.decreases-loop-lines
decreases-loop-lines g l =
    length (unused l.self.ahead) + g.S.Source.most l.self.source
