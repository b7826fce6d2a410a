use Rattle.std.proofs.Common.{◌≡◌, ◌≤◌, ◌+◌, ◌-◌, length, drop}
use Rattle.tclparse.specs.FormulaPiece.{digit_count}
use Rattle.formulas.proofs.opening.digit_count.Given as goal

abbrev pub invariant-loop-len : goal.invariant-loop-len
invariant-loop-len l = (l.len ≤ length l.text)
    × (l.len + digit_count l.base (drop l.len l.text) ≡ digit_count l.base l.text)

abbrev pub decreases-loop-len : goal.decreases-loop-len
decreases-loop-len l = length l.text - l.len
