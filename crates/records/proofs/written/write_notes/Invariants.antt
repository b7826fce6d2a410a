use Rattle.std.proofs.Common.{ℕ, List, drop, map, ◌++◌}
use Rattle.std.specs.List.{AllByRecursion}
use Rattle.records.specs.Entry.{AreNotes, IsNote, note_of}
use Rattle.records.specs.Sink.{Takes}
use Rattle.records.proofs.written.write_notes.Given as goal

abbrev pub invariant-loop-entry : goal.invariant-loop-entry
invariant-loop-entry g l =
    AllByRecursion IsNote (map note_of (drop l.entry-index l.entries))
    × (done : List ℕ) × Takes g.S.Sink.adds g.S.Sink.has_failed l.fn.sink done l.sink
    × ((rest : List ℕ) → AreNotes (map note_of (drop l.entry-index l.entries)) rest
    → AreNotes (map note_of l.entries) (done ++ rest))
