-- The branches of if.
use Rattle.std.specs.Prelude.{ℕ, List, [], ◌∷◌, codes, Option, Some, None, option_map, if◌then◌else◌}
use Rattle.std.specs.Str.{bytes_eq}

-- a test and its body (if(n))
pub record Branch : Type 0 where
  pub test : List ℕ
  pub body : List ℕ

-- the branches in order, and the last body, if there is one (if(n))
pub record Branches : Type 0 where
  pub tests : List Branch
  pub otherwise : Option (List ℕ)

-- a branch before others (if(n))
abbrev pub with_branch : List ℕ → List ℕ → Branches → Branches
with_branch test body more = record {
  tests = record { test = test; body = body } ∷ more.tests;
  otherwise = more.otherwise;
}

-- no branches, and the last body, if there is one (if(n))
abbrev pub no_branch : Option (List ℕ) → Branches
no_branch otherwise = record { tests = []; otherwise = otherwise }

-- the only one of these words (if(n))
abbrev pub alone : List (List ℕ) → Option (List ℕ)
alone (word ∷ []) = Some word
alone _ = None

-- the last body, with else before it or without (if(n))
abbrev pub last_body : List (List ℕ) → Option (List ℕ)
last_body [] = None
last_body (word ∷ more) = if bytes_eq word (codes "else") then alone more else alone (word ∷ more)

abbrev mutual
  -- a test, the word then if it is there, a body, and what follows the body; None where the words
  -- are no branches (if(n))
  pub branches : List (List ℕ) → Option Branches
  branches [] = None
  branches (test ∷ []) = None
  branches (test ∷ word ∷ more) =
      if bytes_eq word (codes "then") then with_body test more
      else option_map (with_branch test word) (behind more)

  -- after a test and the word then: a body, and what follows it (if(n))
  pub with_body : List ℕ → List (List ℕ) → Option Branches
  with_body test [] = None
  with_body test (body ∷ more) = option_map (with_branch test body) (behind more)

  -- after a body: no more words, or elseif and a branch, or the last body (if(n))
  pub behind : List (List ℕ) → Option Branches
  behind [] = Some (no_branch None)
  behind (word ∷ more) =
      if bytes_eq word (codes "elseif") then branches more
      else option_map (λ body. no_branch (Some body)) (last_body (word ∷ more))
