use Rattle.std.proofs.Common.{◌≡◌, ◌++◌, ◌∷◌, length, map}
use Rattle.code.proofs.Doings.{branches_code}
use Rattle.code.specs.Branching.{branch_of}
use Rattle.code.specs.declared.instruction.Instruction.TheVariants as i
use Rattle.code.proofs.doing.if_code.Given as goal

-- what is put, and then the branches that are left, are all of them
abbrev pub invariant-branches : goal.invariant-branches
invariant-branches g l =
    l.code.items
    ++ branches_code (length l.code.items) l.end (map (λ b. branch_of b) l.tests.items) l.otherwise
    ≡ i.Discard ∷ branches_code 1 l.end (map (λ b. branch_of b) l.fn.own.tests.items)
    l.fn.own.otherwise

abbrev pub decreases-branches : goal.decreases-branches
decreases-branches g l = length l.tests.items
