use Rattle.std.proofs.Common.{◌≡◌, ◌*◌, take}
use Rattle.hex.specs.Hex.{IsBytes, encode_lower}
use Rattle.lines.proofs.digits.read_rest.Given as goal

abbrev pub invariant-loop-place : goal.invariant-loop-place
invariant-loop-place l = record {
  read : take (2 * l.place) l.digits ≡ encode_lower (take l.place l.bytes);
  small : IsBytes l.bytes;
}
