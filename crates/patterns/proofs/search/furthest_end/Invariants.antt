use Rattle.std.proofs.Common.{ℕ, List, ◌+◌, ◌*◌, ◌≤◌, ◌∷◌, length, drop}
use Rattle.patterns.specs.Item.{any_run}
use Rattle.patterns.specs.Runs.{items_of_run, starred_items, Leaves}
use Rattle.patterns.proofs.search.furthest_end.Given as goal

-- the remaining runs leave, from this place on, what all the runs leave from the first place on
abbrev pub invariant-loop-run : goal.invariant-loop-run
invariant-loop-run g l = record {
  inside : l.from ≤ length l.window;
  to : (u : List ℕ) → Leaves (any_run ∷ starred_items l.inner (items_of_run l.last))
      (drop l.place l.window) u
      → Leaves (any_run ∷ starred_items l.rest (items_of_run l.last)) (drop l.from l.window) u;
  back : (u : List ℕ) → Leaves (any_run ∷ starred_items l.rest (items_of_run l.last))
      (drop l.from l.window) u
      → Leaves (any_run ∷ starred_items l.inner (items_of_run l.last)) (drop l.place l.window) u;
  steps : l.steps + length (starred_items l.rest (items_of_run l.last)) * (length l.window + 1)
      ≤ l.initial.steps + length (starred_items l.inner (items_of_run l.last)) * (length l.window
      + 1);
}

abbrev pub decreases-loop-run : goal.decreases-loop-run
decreases-loop-run g l = length l.rest
