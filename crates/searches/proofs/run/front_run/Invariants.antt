use Rattle.std.proofs.Common.{◌-◌, length}
use Rattle.searches.proofs.Scans.{Scanned}
use Rattle.searches.proofs.run.front_run.Given as goal

-- the signs so far take one byte each
abbrev pub invariant-loop-more : goal.invariant-loop-more
invariant-loop-more l = Scanned l.text l.end l.size

abbrev pub decreases-loop-more : goal.decreases-loop-more
decreases-loop-more l = length l.text - l.end
