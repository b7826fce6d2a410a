use Rattle.std.proofs.Common.{◌≡◌, ◌≤◌, ◌-◌, ◌*◌, length, take}
use Rattle.hex.specs.Hex.{IsBytes, encode_lower}
use Rattle.lines.proofs.digits.read_lanes.Given as goal

abbrev pub invariant-loop-bytes : goal.invariant-loop-bytes
invariant-loop-bytes l = record {
  within : l.done ≤ length l.bytes;
  read : take (2 * l.done) l.digits ≡ encode_lower (take l.done l.bytes);
  small : IsBytes l.bytes;
}

abbrev pub decreases-loop-bytes : goal.decreases-loop-bytes
decreases-loop-bytes l = length l.bytes - l.done
