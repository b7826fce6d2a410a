-- How many turns a foreach takes, and what its next turn is.
use Rattle.std.proofs.Common.{◌≡◌, ◌∙◌, ℕ, suc, ◌+◌, ◌-◌, ◌<◌, ◌/◌, ◌%◌, ◌⊎◌, inl, inr, min, List, [], ◌∷◌, length, drop, sym, ap, arith, append-nil, eq-zero-or-pos, length-drop}
use Rattle.std.proofs.Math.Nat.{add-div_right, add-mod_right, div-eq_of_lt, max-zero, mod-eq_of_lt, zero-div, zero-mod}
use Rattle.std.specs.Int.{div_ceil}
use Rattle.nesting.specs.Foreach.{asked, dealt, most_asked, rows, turns}
use Rattle.state.specs.Prelude.{gives, Status}
use Rattle.steps.specs.Each.{Each, pair_of, turn_left, turns_left}

-- without elements there is no turn
none_asked : (n : ℕ) → div_ceil 0 n ≡ 0
none_asked n =
    ap (λ q. q + min 1 (0 % n)) (zero-div n) ∙ ap (λ r. 0 + min 1 r) (zero-mod n)

-- with fewer elements than variables there is one
one_asked : (m n : ℕ) → m < n → 0 < m → div_ceil m n ≡ 1
one_asked m n less any =
    ap (λ q. q + min 1 (m % n)) (div-eq_of_lt less)
    ∙ ap (λ r. 0 + min 1 r) (mod-eq_of_lt less) ∙ omega (arith, any)

one_more : (q r : ℕ) → q + 1 + r ≡ suc (q + r)
one_more q r = omega arith

-- with as many elements more as there are variables there is one more
more_asked : (m n : ℕ) → 0 < n → div_ceil (m + n) n ≡ suc (div_ceil m n)
more_asked m n some =
    ap (λ q. q + min 1 ((m + n) % n)) (add-div_right m some)
    ∙ ap (λ r. m / n + 1 + min 1 r) (add-mod_right m n) ∙ one_more (m / n) (min 1 (m % n))

either_asked : (m n : ℕ) → 0 < n → 0 < m → (n - m ≡ 0) ⊎ (0 < n - m) →
    div_ceil m n ≡ suc (div_ceil (m - n) n)
either_asked m n some any (inl enough) =
    let is : m - n + n ≡ m = omega (arith, enough) in
    ap (λ k. div_ceil k n) (sym is) ∙ more_asked (m - n) n some
either_asked m n some any (inr less) =
    let none : m - n ≡ 0 = omega (arith, less) in
    one_asked m n (omega (arith, less)) any
    ∙ sym (ap suc (ap (λ k. div_ceil k n) none ∙ none_asked n))

-- a turn is one of those that are asked for, and takes an element for each variable
asked_after : (names elements : List (List ℕ)) → 0 < length names → 0 < length elements →
    asked (pair_of names elements) ≡ suc (asked (pair_of names (drop (length names) elements)))
asked_after names elements some any =
    let m = length elements in
    let n = length names in
    either_asked m n some any (eq-zero-or-pos (n - m))
    ∙ ap (λ k. suc (div_ceil k n)) (sym (length-drop n elements))

-- so it is with one pair
most_after : (names elements : List (List ℕ)) → 0 < length names → 0 < length elements →
    most_asked (pair_of names elements ∷ [])
    ≡ suc (most_asked (pair_of names (drop (length names) elements) ∷ []))
most_after names elements some any =
    let after = pair_of names (drop (length names) elements) in
    max-zero (asked (pair_of names elements)) ∙ asked_after names elements some any
    ∙ ap suc (sym (max-zero (asked after)))

-- where no element is left, no turn is
pub no_turn : (levels : ℕ) (each : Each) (s : Status) → turns_left levels each [] s ≡ gives [] s
no_turn levels each s =
    ap (λ k. turns levels each.body (rows k (pair_of each.names [] ∷ [])) s)
    (max-zero (asked (pair_of each.names [])) ∙ none_asked (length each.names))

-- where some are, the variables take theirs, and the turns after it have the rest
pub next_turn : (levels : ℕ) (each : Each) (elements : List (List ℕ)) (s : Status) →
    0 < length each.names → 0 < length elements →
    turns_left levels each elements s ≡ turn_left levels each.names each elements s
next_turn levels each elements s some any =
    let names = each.names in
    let after = pair_of names (drop (length names) elements) in
    let row = dealt names elements in
    ap (λ k. turns levels each.body (rows k (pair_of names elements ∷ [])) s)
    (most_after names elements some any)
    ∙ ap (λ first. turns levels each.body (first ∷ rows (most_asked (after ∷ [])) (after ∷ [])) s)
    (append-nil row)
