use Rattle.std.proofs.Common.{◌≡◌, List, length}
use Rattle.std.specs.Io.KnownBytes.{Keeps}
use Rattle.std.specs.declared.io.Error.{Error}
use Rattle.records.specs.Tries.{AreInterrupted}
use Rattle.records.proofs.counted.write_some.Given as goal

abbrev pub invariant-loop-tries : goal.invariant-loop-tries
invariant-loop-tries g l =
    Keeps (g.W.Writer.held l.fn.writer) (g.W.Writer.held l.writer)
    × ((errors : List Error) × (length errors ≡ l.tries)
    × AreInterrupted g.W.Writer.writes errors l.fn.writer l.text l.writer)
