use Rattle.std.proofs.Common.{◌≡◌, take}
use Rattle.code.proofs.arms.shared.Given as goal

-- the texts so far
abbrev pub invariant-loop-text : goal.invariant-loop-text
invariant-loop-text g l = l.all.items ≡ take l.text-index l.texts
