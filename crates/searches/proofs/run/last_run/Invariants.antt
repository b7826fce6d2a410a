use Rattle.std.proofs.Common.{IsTrue, length}
use Rattle.searches.proofs.Scans.{Met, MetAlone}
use Rattle.searches.proofs.run.last_run.Given as goal

-- the last run that was met stands in the text before the rest, and it is told whether nothing but
-- `*` stands beside it
abbrev pub invariant-loop-more : goal.invariant-loop-more
invariant-loop-more l = Met l.text l.rest l.run.text.now l.run.size
    × (IsTrue l.is_alone → MetAlone l.text l.rest l.run.text.now)

abbrev pub decreases-loop-more : goal.decreases-loop-more
decreases-loop-more l = length l.rest
