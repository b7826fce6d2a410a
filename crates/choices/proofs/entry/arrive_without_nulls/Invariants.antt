use Rattle.std.proofs.Common.{◌≡◌, ◌≤◌, ◌++◌, length}
use Rattle.circular_buffer.specs.Buffer.{keep_last}
use Rattle.choices.specs.Lines.{without_nulls}
use Rattle.choices.proofs.entry.arrive_without_nulls.Given as goal

-- the bytes held so far, and those still to arrive
abbrev pub invariant-loop-null : goal.invariant-loop-null
invariant-loop-null g l = record {
  max : l.buffer.max ≡ l.fn.buffer.max;
  bytes : keep_last l.fn.buffer.max (l.buffer.bytes ++ without_nulls l.rest)
      ≡ keep_last l.fn.buffer.max (l.fn.buffer.bytes ++ without_nulls l.bytes);
  short : length l.rest ≤ length l.bytes;
}

abbrev pub decreases-loop-null : goal.decreases-loop-null
decreases-loop-null g l = length l.rest
