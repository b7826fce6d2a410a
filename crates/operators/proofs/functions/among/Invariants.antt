use Rattle.std.proofs.Common.{◌≡◌, ◌∷◌, drop}
use Rattle.std.specs.List.{fold}
use Rattle.operators.specs.Function.{among, chosen}
use Rattle.operators.specs.Number.{with_all, told}
use Rattle.operators.proofs.functions.among.Given as goal

-- what the operands still unread give, with the best number so far
abbrev pub invariant-loop-operand : goal.invariant-loop-operand
invariant-loop-operand g l =
    with_all (l.first ∷ l.rest) (among l.which)
    ≡ with_all (drop l.operand-index l.rest)
    (λ numbers. told (fold (chosen l.which) l.best numbers))
