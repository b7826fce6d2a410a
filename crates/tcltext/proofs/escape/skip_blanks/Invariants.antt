use Rattle.std.proofs.Common.{◌≡◌, ◌≤◌, length}
use Rattle.tcltext.specs.Escape.{skip_blanks}
use Rattle.tcltext.proofs.escape.skip_blanks.Given as goal

abbrev pub invariant-loop-rest : goal.invariant-loop-rest
invariant-loop-rest l = (skip_blanks l.rest ≡ skip_blanks l.text) × (length l.rest ≤ length l.text)

abbrev pub decreases-loop-rest : goal.decreases-loop-rest
decreases-loop-rest l = length l.rest
