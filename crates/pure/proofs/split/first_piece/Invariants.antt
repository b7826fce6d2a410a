use Rattle.std.proofs.Common.{◌≡◌, ℕ, ◌<◌, false, get_or}
use Rattle.pure.specs.Trim.{is_among}
use Rattle.pure.proofs.split.first_piece.Given as goal

abbrev pub invariant-loop-place : goal.invariant-loop-place
invariant-loop-place l = (k : ℕ) → k < l.place → is_among l.bytes (get_or l.text k 0) ≡ false
