use Rattle.std.proofs.Common.{ℕ, ◌+◌, ◌-◌, ◌*◌, ◌<◌, ◌≤◌, length}
use Rattle.patterns.specs.Runs.{items_of_run, IsPlace}
use Rattle.patterns.proofs.walk.first_place.Given as goal

-- the run fits at no place before this one, and each place so far cost at most one step per item
abbrev pub invariant-loop-place : goal.invariant-loop-place
invariant-loop-place g l = record {
  low : l.from ≤ l.place;
  high : l.place ≤ l.end;
  before : (k : ℕ) → l.from ≤ k → k < l.place → ¬ IsPlace (items_of_run l.run) l.window k;
  steps : l.steps ≤ l.initial.steps + length (items_of_run l.run) * (l.place - l.from);
}

abbrev pub decreases-loop-place : goal.decreases-loop-place
decreases-loop-place g l = l.end - l.place
