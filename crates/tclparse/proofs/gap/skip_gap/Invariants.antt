use Rattle.std.proofs.Common.{◌≡◌, ◌≤◌, length}
use Rattle.tclparse.specs.Seen.{context_of}
use Rattle.tclparse.specs.Gap.{skip_gap, between}
use Rattle.tclparse.proofs.gap.skip_gap.Given as goal

abbrev pub invariant-loop-bytes : goal.invariant-loop-bytes
invariant-loop-bytes l = (skip_gap (context_of l.context) between l.bytes
    ≡ skip_gap (context_of l.context) between l.text) × (length l.bytes ≤ length l.text)

abbrev pub decreases-loop-bytes : goal.decreases-loop-bytes
decreases-loop-bytes l = length l.bytes
