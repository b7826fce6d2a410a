-- The words of a command, as the code takes them apart.
use Rattle.std.proofs.Common.{◌≡◌, ◌-◌, ℕ, ◌≤◌, List, [], ◌∷◌, drop, get_or, length, take, refl, sym, ap, arith}
use Rattle.std.proofs.lemmas.List.{length-drop, take_all}

-- words of which the first is known
pub first_word : (words : List (List ℕ)) (first : List ℕ) → 1 ≤ length words →
    first ≡ get_or words 0 first → words ≡ first ∷ drop 1 words
first_word [] first some is = absurd (omega arith)
first_word (x ∷ xs) first some is = ap (λ (w : List ℕ). w ∷ xs) (sym is)

-- the words after the first, as the code cuts them out
pub rest_words : (words : List (List ℕ)) → drop 1 words ≡ take (length words - 1) (drop 1 words)
rest_words words =
    let len : length (drop 1 words) ≡ length words - 1 = length-drop 1 words in
    sym (take_all (length words - 1) (drop 1 words) (omega (arith, len)))

-- no words at all
pub no_word : (words : List (List ℕ)) → length words ≡ 0 → words ≡ []
no_word [] none = refl
no_word (x ∷ xs) none = absurd (omega (arith, none))
