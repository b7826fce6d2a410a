use Rattle.std.proofs.Common.{[], if◌then◌else◌, ◌+◌}
use Rattle.records.specs.Reading.{KnowsEnd, ReadsOn, place_of}
use Rattle.records.proofs.reader.EntryReader.read_ahead.Given as goal

abbrev pub invariant-loop-self : goal.invariant-loop-self
invariant-loop-self g l =
    ReadsOn g.S.Source.gives g.S.Source.most (place_of l.fn.self) [] (place_of l.self)
    × (KnowsEnd g.S.Source.gives l.fn.self → KnowsEnd g.S.Source.gives l.self)

abbrev pub decreases-loop-self : goal.decreases-loop-self
decreases-loop-self g l =
    g.S.Source.most l.self.source + (if l.self.ended then 0 else 1)
