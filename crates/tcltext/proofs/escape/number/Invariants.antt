use Rattle.std.proofs.Common.{◌≡◌, ◌≤◌, length}
use Rattle.tcltext.specs.Escape.{byte_number}
use Rattle.tcltext.proofs.escape.number.Given as goal

abbrev pub invariant-loop-rest : goal.invariant-loop-rest
invariant-loop-rest l = record {
  value : byte_number l.base l.left l.value l.rest ≡ byte_number l.base l.most 0 l.text;
  small : l.value ≤ 255;
  shorter : length l.rest ≤ length l.text;
}

abbrev pub decreases-loop-rest : goal.decreases-loop-rest
decreases-loop-rest l = length l.rest
