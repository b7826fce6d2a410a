use Rattle.std.proofs.Common.{◌≡◌, ◌+◌, ◌≤◌, ℕ, List, length, map, ◌++◌}
use Rattle.records.specs.Entry.{AreNotes, lines_in, note_of}
use Rattle.records.proofs.entries.read_notes.Given as goal

abbrev pub invariant-loop-rest : goal.invariant-loop-rest
invariant-loop-rest g l =
    (good : List ℕ) × (l.lines ≡ good ++ l.rest) × AreNotes (map note_of l.entries.items) good
    × (l.line ≡ lines_in (map note_of l.entries.items) + 2)
    × (lines_in (map note_of l.entries.items) + length l.rest ≤ length l.lines)

abbrev pub decreases-loop-rest : goal.decreases-loop-rest
decreases-loop-rest g l = length l.rest
