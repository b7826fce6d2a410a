-- How branches, as they are read, correspond to those of the definition.
use Rattle.std.specs.Prelude.{◌≡◌, ℕ, ◌<◌, length, map, option_map, Option, Some, None}
use Rattle.code.specs.Branches.{Branch, Branches, branches, no_branch, with_branch, behind as after_body}
use Rattle.code.specs.declared.branches.Behind.{Behind}
use Rattle.code.specs.declared.branches.Behind.TheVariants as behind
use Rattle.code.specs.declared.branches.Branch as coded
use Rattle.code.specs.declared.branches.Branches as all
use Rattle.code.specs.declared.branches.Front.{Front}

-- the branch that one of the code's stands for
abbrev pub branch_of : {A : Type 0} → coded.Branch A → Branch
branch_of b = record { test = b.test; body = b.body }

-- the branches that those of the code stand for
abbrev pub branches_of : {A : Type 0} → all.Branches A → Branches
branches_of all = record {
  tests = map (λ b. branch_of b) all.tests.items;
  otherwise = all.otherwise;
}

-- what stands after a body in the code, as branches
abbrev pub behind_of : {A : Type 0} → Behind A → Option Branches
behind_of (behind.Branches words) = branches words.now
behind_of (behind.End last) = Some (no_branch (option_map (λ body. body.now) last))
behind_of behind.Wrong = None

-- further branches, if there are any, have fewer than n words
abbrev pub HasFewerWords : {A : Type 0} → Behind A → ℕ → Type 0
HasFewerWords (behind.Branches words) n = length words.now < n
HasFewerWords (behind.End last) n = Unit {0}
HasFewerWords behind.Wrong n = Unit {0}

-- some words are branches of which this is the first, or none is there
abbrev pub IsFront : {A : Type 0} → Option (Front A) → Option Branches → Type 0
IsFront None found = found ≡ None
IsFront (Some front) found =
    found ≡ option_map (with_branch front.test.now front.body.now) (after_body front.behind.now)
