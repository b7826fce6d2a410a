use Rattle.std.proofs.Common.{◌≡◌, ℕ, ◌<◌, ◌&&◌, ◌||◌, nat_le, nat_lt, false, slice_index_or}
use Rattle.patterns.proofs.set.mark.Given as goal

-- the bytes from the low end up to this one are marked, and of the others only those marked before
abbrev pub invariant-loop-byte : goal.invariant-loop-byte
invariant-loop-byte l =
    (b : ℕ) → b < 256 → slice_index_or l.table b false
    ≡ (slice_index_or l.initial.table b false || (nat_le l.low b && nat_lt b l.byte))
