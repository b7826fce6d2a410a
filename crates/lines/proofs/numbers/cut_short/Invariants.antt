use Rattle.std.proofs.Common.{◌-◌, ◌≤◌, length}
use Rattle.lines.proofs.Decimals.{IsReadTo}
use Rattle.lines.proofs.numbers.cut_short.Given as goal

abbrev pub invariant-loop-digit : goal.invariant-loop-digit
invariant-loop-digit l = IsReadTo l.text l.place l.number × (l.place ≤ length l.text)

abbrev pub decreases-loop-digit : goal.decreases-loop-digit
decreases-loop-digit l = length l.text - l.place
