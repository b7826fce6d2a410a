use Rattle.std.proofs.Common.{◌≡◌, ◌<◌, ◌^◌, length}
use Rattle.tcltext.specs.Numbers.{digits_behind}
use Rattle.tcltext.proofs.number.read.read_more_digits.Given as goal

abbrev pub invariant-loop-rest : goal.invariant-loop-rest
invariant-loop-rest l = record {
  number : digits_behind l.base l.value l.rest ≡ digits_behind l.base 0 l.text;
  fits : l.value < 2 ^ 64;
}

abbrev pub decreases-loop-rest : goal.decreases-loop-rest
decreases-loop-rest l = length l.rest
