-- How a story counts the acts that it is told, and the two laws of it that the story shows where it
-- says what it keeps (a law of a type can cite definitions alone).
use Rattle.std.specs.Prelude.{◌≡◌, ℕ, ◌+◌, ◌-◌, ◌^◌, min, List, ◌++◌, length}
use Rattle.std.proofs.Common.{arith}
use Rattle.std.proofs.lemmas.List.{length-append}

-- the greatest number of 64 bits
abbrev pub most : ℕ
most = 2 ^ 64 - 1

-- a count goes on by so many, and stands still at the greatest number
abbrev pub CountsOn : ℕ → ℕ → ℕ → Type 0
CountsOn before more after = min after most ≡ min (before + more) most

pub stands_still : (count : ℕ) → CountsOn count 0 count
stands_still count = omega arith

pub goes_on : {X : Type 0} (a b c : ℕ) (h k : List X) →
    CountsOn a (length h) b → CountsOn b (length k) c → CountsOn a (length (h ++ k)) c
goes_on a b c h k first next =
    let all = length-append h k in omega (arith, first, next, all)
