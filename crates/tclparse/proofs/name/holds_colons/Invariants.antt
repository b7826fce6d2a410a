use Rattle.std.proofs.Common.{◌≡◌, length}
use Rattle.tclparse.specs.Variable.{holds_colons}
use Rattle.tclparse.proofs.name.holds_colons.Given as goal

abbrev pub invariant-loop-bytes : goal.invariant-loop-bytes
invariant-loop-bytes l = holds_colons l.bytes ≡ holds_colons l.name

abbrev pub decreases-loop-bytes : goal.decreases-loop-bytes
decreases-loop-bytes l = length l.bytes
