use Rattle.std.proofs.Common.{length}
use Rattle.tclparse.proofs.Braced.{ValueSoFar}
use Rattle.tclparse.proofs.braces.fold_lines.Given as goal

abbrev pub invariant-loop-bytes : goal.invariant-loop-bytes
invariant-loop-bytes g l = ValueSoFar l.value.items l.bytes l.text

abbrev pub decreases-loop-bytes : goal.decreases-loop-bytes
decreases-loop-bytes g l = length l.bytes
