-- What foreach does with its words, read from left to right.
use Rattle.std.proofs.Common.{◌≡◌, ◌∙◌, ℕ, ◌-◌, ◌≤◌, List, [], ◌∷◌, ◌++◌, length, drop, take, get_or, max, false, refl, sym, ap, arith}
use Rattle.std.proofs.Math.Seq.{take-length}
use Rattle.nesting.specs.Foreach.{Pair, asked, foreach, is_taken, most_asked, with_pair, with_pairs, wrong_words}
use Rattle.std.specs.Ordering.{nat_cmp, ord_max}
use Rattle.state.specs.Prelude.{Course, Status}

-- the greater of two numbers, as the code has it
pub greater : (a b : ℕ) → ord_max nat_cmp a b ≡ max a b
greater a b = grind arith

-- how many turns are asked for with one pair more
pub most_behind : (pairs : List Pair) (p : Pair) →
    most_asked (pairs ++ p ∷ []) ≡ max (most_asked pairs) (asked p)
most_behind [] p = omega arith
most_behind (q ∷ pairs) p = omega (arith, most_behind pairs p)

-- without a word there is no body
pub pairs_wrong : (words : List (List ℕ)) (pairs : List Pair) (s : Status)
    (next : List Pair → List ℕ → Course) → length words ≡ 0 →
    with_pairs words pairs s next ≡ wrong_words s
pairs_wrong [] pairs s next none = refl
pairs_wrong (w ∷ ws) pairs s next none = absurd (omega arith)

-- the last word is the body
pub pairs_body : (words : List (List ℕ)) (pairs : List Pair) (s : Status)
    (next : List Pair → List ℕ → Course) (body text : List ℕ) → length words ≡ 1 →
    body ≡ get_or words 0 body → text ≡ body → with_pairs words pairs s next ≡ next pairs text
pairs_body [] pairs s next body text one first same = absurd (omega arith)
pairs_body (w ∷ []) pairs s next body text one first same = rw (same, first) refl
pairs_body (w ∷ v ∷ ws) pairs s next body text one first same = absurd (omega arith)

-- before the body stand two words for each pair
pub pairs_begin : (words : List (List ℕ)) (pairs : List Pair) (s : Status)
    (next : List Pair → List ℕ → Course) (variables list first second : List ℕ) →
    2 ≤ length words → variables ≡ get_or words 0 variables → list ≡ get_or words 1 list →
    first ≡ variables → second ≡ list →
    with_pairs words pairs s next
    ≡ with_pair first second s (λ pair.
    with_pairs (take (length words - 2) (drop 2 words)) (pairs ++ pair ∷ []) s next)
pairs_begin [] pairs s next v l f g two is also same alike = absurd (omega arith)
pairs_begin (w ∷ []) pairs s next v l f g two is also same alike = absurd (omega arith)
pairs_begin (a ∷ b ∷ ws) pairs s next v l f g two is also same alike =
    let n : length (a ∷ b ∷ ws) - 2 ≡ length ws = omega arith in
    let rest : take (length (a ∷ b ∷ ws) - 2) ws ≡ ws = rw n (take-length ws) in
    ap (λ x. with_pair x b s (λ pair. with_pairs ws (pairs ++ pair ∷ []) s next)) (sym (same ∙ is))
    ∙ ap (λ x. with_pair f x s (λ pair. with_pairs ws (pairs ++ pair ∷ []) s next))
    (sym (alike ∙ also))
    ∙ ap (λ xs. with_pair f g s (λ pair. with_pairs xs (pairs ++ pair ∷ []) s next)) (sym rest)

-- foreach is given another number of words than it takes
pub foreach_other : (levels : ℕ) (words : List (List ℕ)) (s : Status) →
    is_taken (length words) ≡ false → foreach levels words s ≡ wrong_words s
foreach_other levels words s other = rw other refl
