use Rattle.std.proofs.Common.{◌≡◌, ◌++◌, drop, map}
use Rattle.choices.specs.Branches.{pair}
use Rattle.readings.proofs.draft.push_for_each.Given as goal

-- the pairs so far, and those still to be added
abbrev pub invariant-loop-id : goal.invariant-loop-id
invariant-loop-id g l =
    l.pairs.items ++ map (λ i. pair i l.branch.value) (drop l.id-index l.ids)
    ≡ l.fn.pairs.items ++ map (λ i. pair i l.branch.value) l.ids
