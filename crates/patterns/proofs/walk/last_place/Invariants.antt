use Rattle.std.proofs.Common.{ℕ, ◌+◌, ◌-◌, ◌*◌, ◌≤◌, length}
use Rattle.patterns.specs.Runs.{items_of_run, IsPlace}
use Rattle.patterns.proofs.walk.last_place.Given as goal

-- the run fits at no place from this one on, and each place so far cost at most one step per item
abbrev pub invariant-loop-end : goal.invariant-loop-end
invariant-loop-end g l = record {
  low : l.from ≤ l.end;
  high : l.end ≤ l.initial.end;
  after : (k : ℕ) → l.end ≤ k → ¬ IsPlace (items_of_run l.run) l.window k;
  steps : l.steps ≤ l.initial.steps + length (items_of_run l.run) * (l.initial.end - l.end);
}

abbrev pub decreases-loop-end : goal.decreases-loop-end
decreases-loop-end g l = l.end - l.from
