use Rattle.std.proofs.Common.{◌≡◌, length}
use Rattle.code.specs.Argument.{is_braced}
use Rattle.code.proofs.argument.is_braced.Given as goal

-- the remaining bytes decide whether the text is one in braces
abbrev pub invariant-loop-byte : goal.invariant-loop-byte
invariant-loop-byte l = is_braced l.rest ≡ is_braced l.fn.text

abbrev pub decreases-loop-byte : goal.decreases-loop-byte
decreases-loop-byte l = length l.rest
