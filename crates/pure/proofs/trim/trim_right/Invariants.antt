use Rattle.std.proofs.Common.{◌≡◌, ◌+◌, ◌≤◌, length, take}
use Rattle.std.specs.List.{suffix_len}
use Rattle.pure.specs.Trim.{is_among}
use Rattle.pure.proofs.trim.trim_right.Given as goal

abbrev pub invariant-loop-end : goal.invariant-loop-end
invariant-loop-end l = record {
  within : l.end ≤ length l.text;
  counted : l.end + suffix_len (is_among l.bytes) l.text
      ≡ length l.text + suffix_len (is_among l.bytes) (take l.end l.text);
}

abbrev pub decreases-loop-end : goal.decreases-loop-end
decreases-loop-end l = l.end
