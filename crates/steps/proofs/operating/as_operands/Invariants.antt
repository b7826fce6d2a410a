use Rattle.std.proofs.Common.{◌≡◌, take}
use Rattle.steps.proofs.operating.as_operands.Given as goal

-- the texts so far
abbrev pub invariant-loop-text : goal.invariant-loop-text
invariant-loop-text g l = l.operands.items ≡ take l.text-index l.texts
