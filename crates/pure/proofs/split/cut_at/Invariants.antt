use Rattle.std.proofs.Common.{◌≡◌, ◌++◌, length}
use Rattle.std.specs.List.{slice_split}
use Rattle.tcltext.specs.Canonical.{canonical, joined}
use Rattle.pure.specs.Trim.{is_among}
use Rattle.pure.proofs.split.cut_at.Given as goal

abbrev pub invariant-loop-piece : goal.invariant-loop-piece
invariant-loop-piece g l =
    l.list.items ++ joined l.first (slice_split (is_among l.bytes) l.rest)
    ≡ canonical (slice_split (is_among l.bytes) l.text)

abbrev pub decreases-loop-piece : goal.decreases-loop-piece
decreases-loop-piece g l = length l.rest
