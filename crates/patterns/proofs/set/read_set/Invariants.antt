use Rattle.std.proofs.Common.{◌≡◌, ℕ, ◌<◌, ◌||◌, length, false, slice_index_or}
use Rattle.patterns.specs.Glob.{ranges, is_in_ranges}
use Rattle.patterns.proofs.set.read_set.Given as goal

-- a byte is in the set where it is marked or in one of the ranges to come
abbrev pub invariant-loop-one : goal.invariant-loop-one
invariant-loop-one l =
    (b : ℕ) → b < 256 → (slice_index_or l.table b false || is_in_ranges (ranges l.rest) b)
    ≡ is_in_ranges (ranges l.text) b

abbrev pub decreases-loop-one : goal.decreases-loop-one
decreases-loop-one l = length l.rest
