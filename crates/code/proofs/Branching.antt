-- The branches of if, read from left to right.
use Rattle.std.proofs.Common.{◌≡◌, ℕ, ◌-◌, ◌≤◌, true, false, List, [], ◌∷◌, ◌++◌, length, drop, take, get_or, Option, Some, None, option_map, append_assoc, refl, sym, ap, arith}
use Rattle.std.specs.Prelude.{codes}
use Rattle.std.specs.Str.{bytes_eq}
use Rattle.code.proofs.Fronts.{behind_one, behind_two}
use Rattle.code.specs.Branches.{Branch, Branches, behind, branches, with_body, with_branch}

-- branches before others
abbrev pub prefixed : List Branch → Branches → Branches
prefixed first more = record { tests = first ++ more.tests; otherwise = more.otherwise }

pub none_before : (found : Option Branches) → found ≡ option_map (prefixed []) found
none_before None = refl
none_before (Some more) = refl

pub one_more : (first : List Branch) (test body : List ℕ) (found : Option Branches) →
    option_map (prefixed first) (option_map (with_branch test body) found)
    ≡ option_map (prefixed (first ++ record { test = test; body = body } ∷ [])) found
one_more first test body None = refl
one_more first test body (Some more) =
    let last : Branch = record { test = test; body = body } in
    let with_tests : List Branch → Option Branches = λ tests.
    let all : Branches = record { tests = tests; otherwise = more.otherwise } in Some all in
    ap with_tests (sym (append_assoc first (last ∷ []) more.tests))

-- words after a test, of which the next is then or a body
pub behind_then : (words : List (List ℕ)) (test word : List ℕ) → 2 ≤ length words →
    test ≡ get_or words 0 test → word ≡ get_or words 1 word →
    bytes_eq word (codes "then") ≡ true →
    branches words ≡ with_body test (take (length words - 2) (drop 2 words))
behind_then [] test word two first second is = absurd (omega arith)
behind_then (a ∷ []) test word two first second is = absurd (omega arith)
behind_then (a ∷ b ∷ more) test word two first second is =
    let named : bytes_eq b (codes "then") ≡ true = rw second at is in
    rw (first, named, behind_two a b more) refl

pub behind_test : (words : List (List ℕ)) (test word : List ℕ) → 2 ≤ length words →
    test ≡ get_or words 0 test → word ≡ get_or words 1 word →
    bytes_eq word (codes "then") ≡ false →
    branches words
    ≡ option_map (with_branch test word) (behind (take (length words - 2) (drop 2 words)))
behind_test [] test word two first second is = absurd (omega arith)
behind_test (a ∷ []) test word two first second is = absurd (omega arith)
behind_test (a ∷ b ∷ more) test word two first second is =
    let plain : bytes_eq b (codes "then") ≡ false = rw second at is in
    rw (first, second, plain, behind_two a b more) refl

pub body_there : (test : List ℕ) (words : List (List ℕ)) (body : List ℕ) → 1 ≤ length words →
    body ≡ get_or words 0 body →
    with_body test words
    ≡ option_map (with_branch test body) (behind (take (length words - 1) (drop 1 words)))
body_there test [] body one first = absurd (omega arith)
body_there test (a ∷ more) body one first = rw (first, behind_one a more) refl
