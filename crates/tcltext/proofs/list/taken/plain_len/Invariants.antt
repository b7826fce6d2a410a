use Rattle.std.proofs.Common.{◌≡◌, ℕ, ◌<◌, false, get_or}
use Rattle.tcltext.specs.Style.{ends_plain}
use Rattle.tcltext.proofs.list.taken.plain_len.Given as goal

abbrev pub invariant-loop-place : goal.invariant-loop-place
invariant-loop-place l = (k : ℕ) → k < l.place → ends_plain (get_or l.text k 0) ≡ false
