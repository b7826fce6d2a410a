use Rattle.std.proofs.Common.{◌≡◌, ◌≤◌, length, if◌then◌else◌}
use Rattle.tclparse.specs.Seen.{context_of}
use Rattle.tclparse.specs.Gap.{skip_gap, comment, in_pair}
use Rattle.tclparse.proofs.gap.skip_comment.Given as goal

abbrev pub invariant-loop-bytes : goal.invariant-loop-bytes
invariant-loop-bytes l =
    (skip_gap (context_of l.fn.context) (if l.hidden then in_pair else comment) l.bytes
    ≡ skip_gap (context_of l.fn.context) comment l.text) × (length l.bytes ≤ length l.text)

abbrev pub decreases-loop-bytes : goal.decreases-loop-bytes
decreases-loop-bytes l = length l.bytes
