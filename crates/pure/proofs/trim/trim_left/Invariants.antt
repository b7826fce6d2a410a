use Rattle.std.proofs.Common.{◌≡◌, ◌+◌, ◌-◌, ◌≤◌, length, drop}
use Rattle.std.specs.List.{prefix_len}
use Rattle.pure.specs.Trim.{is_among}
use Rattle.pure.proofs.trim.trim_left.Given as goal

abbrev pub invariant-loop-start : goal.invariant-loop-start
invariant-loop-start l = record {
  within : l.start ≤ length l.text;
  counted : l.start + prefix_len (is_among l.bytes) (drop l.start l.text)
      ≡ prefix_len (is_among l.bytes) l.text;
}

abbrev pub decreases-loop-start : goal.decreases-loop-start
decreases-loop-start l = length l.text - l.start
