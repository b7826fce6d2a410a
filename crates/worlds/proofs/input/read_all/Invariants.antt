use Rattle.std.proofs.Common.{◌<◌, ◌≤◌, ℕ, List, Result, length, vec_len}
use Rattle.std.specs.Io.KnownBytes.{Consumes}
use Rattle.std.specs.declared.io.Error.{Error}
use Rattle.worlds.specs.Reads.{Follows}
use Rattle.worlds.proofs.input.read_all.Given as goal

abbrev pub invariant-chunks : goal.invariant-chunks
invariant-chunks g l =
    (0 < vec_len l.chunk)
    × Consumes (g.R.Reader.left l.fn.reader) (g.R.Reader.left l.reader) l.text.items
    × ((answers : List (Result ℕ Error)) × (l._read ≤ length answers)
    × Follows g.R.Reader.reads l.fn.reader answers l.reader)
