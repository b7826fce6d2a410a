use Rattle.std.proofs.Common.{◌≡◌, ◌≤◌, length, false}
use Rattle.tclparse.specs.Seen.{context_of}
use Rattle.tclparse.specs.Gap.{skip_white}
use Rattle.tclparse.proofs.gap.skip_white.Given as goal

abbrev pub invariant-loop-bytes : goal.invariant-loop-bytes
invariant-loop-bytes l = (skip_white (context_of l.context) false l.bytes
    ≡ skip_white (context_of l.context) false l.text) × (length l.bytes ≤ length l.text)

abbrev pub decreases-loop-bytes : goal.decreases-loop-bytes
decreases-loop-bytes l = length l.bytes
