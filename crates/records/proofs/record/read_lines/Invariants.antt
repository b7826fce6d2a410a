use Rattle.std.proofs.Common.{◌≡◌, ◌+◌, ◌≤◌, ℕ, List, length, map, ◌++◌}
use Rattle.acts.specs.Deed.{reply_of}
use Rattle.records.specs.Record.{AreLines}
use Rattle.records.proofs.record.read_lines.Given as goal

abbrev pub invariant-loop-rest : goal.invariant-loop-rest
invariant-loop-rest g l =
    (good : List ℕ) × (l.lines ≡ good ++ l.rest) × AreLines (map reply_of l.answers.items) good
    × (length l.answers.items + length l.rest ≤ length l.lines)

abbrev pub decreases-loop-rest : goal.decreases-loop-rest
decreases-loop-rest g l = length l.rest
