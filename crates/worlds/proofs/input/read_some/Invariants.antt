use Rattle.std.proofs.Common.{◌≡◌, List, ℕ, Result, length}
use Rattle.std.specs.Io.KnownBytes.{Keeps}
use Rattle.std.specs.declared.io.Error.{Error}
use Rattle.worlds.specs.Reads.{Follows}
use Rattle.worlds.proofs.input.read_some.Given as goal

abbrev pub invariant-tries : goal.invariant-tries
invariant-tries g l =
    Keeps (g.R.Reader.left l.fn.reader) (g.R.Reader.left l.reader)
    × (length l.chunk ≡ length l.fn.chunk)
    × ((answers : List (Result ℕ Error)) × (length answers ≡ l._tried)
    × Follows g.R.Reader.reads l.fn.reader answers l.reader)
