use Rattle.std.proofs.Common.{◌≡◌, ◌≤◌, length}
use Rattle.tcltext.specs.White.{skip_white}
use Rattle.formulas.proofs.white.skip_white.Given as goal

abbrev pub invariant-loop-rest : goal.invariant-loop-rest
invariant-loop-rest l = (skip_white l.rest ≡ skip_white l.text) × (length l.rest ≤ length l.text)

abbrev pub decreases-loop-rest : goal.decreases-loop-rest
decreases-loop-rest l = length l.rest
