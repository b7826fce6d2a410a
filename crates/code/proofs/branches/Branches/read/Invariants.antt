use Rattle.std.proofs.Common.{◌≡◌, length, map, option_map}
use Rattle.code.proofs.Branching.{prefixed}
use Rattle.code.specs.Branches.{branches}
use Rattle.code.specs.Branching.{branch_of}
use Rattle.code.proofs.branches.Branches.read.Given as goal

-- the branches so far stand before those that the rest of the words makes
abbrev pub invariant-branches : goal.invariant-branches
invariant-branches g l =
    branches l.fn.words
    ≡ option_map (prefixed (map (λ b. branch_of b) l.tests.items)) (branches l.rest)

abbrev pub decreases-branches : goal.decreases-branches
decreases-branches g l = length l.rest
