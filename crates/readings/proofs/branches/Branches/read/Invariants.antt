use Rattle.std.proofs.Common.{length}
use Rattle.readings.specs.Drafts.{GoesOn, blank}
use Rattle.readings.specs.Parts.{parts}
use Rattle.readings.specs.Reads.{place}
use Rattle.readings.proofs.branches.Branches.read.Given as goal

-- reading goes on from the first word to here
abbrev pub invariant-loop-word : goal.invariant-loop-word
invariant-loop-word g l = GoesOn (place l.table.lines l.current l.standing) blank
    (parts l.standing l.words) l.draft (parts l.standing l.rest)

abbrev pub decreases-loop-word : goal.decreases-loop-word
decreases-loop-word g l = length l.rest
