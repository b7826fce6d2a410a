use Rattle.std.proofs.Common.{◌≡◌, ◌*◌, ◌++◌, take, drop}
use Rattle.hex.specs.Hex.{encode_lower}
use Rattle.lines.proofs.digits.write_rest.Given as goal

abbrev pub invariant-loop-place : goal.invariant-loop-place
invariant-loop-place l =
    take (2 * l.place) l.digits ++ encode_lower (drop l.place l.bytes) ≡ encode_lower l.bytes
