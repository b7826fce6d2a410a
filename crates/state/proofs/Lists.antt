-- Lists, split at one of their places.
use Rattle.std.proofs.Common.{◌≡◌, ℕ, ◌+◌, ◌<◌, suc, List, [], ◌∷◌, length, drop, get_or, sym, ap, ◌∙◌, add-one, arith}
use Rattle.std.proofs.Math.Seq.{drop-cons}

-- the element at the place, and what follows it
pub split_at : {X : Type 0} (xs : List X) (i : ℕ) (x : X) → i < length xs → x ≡ get_or xs i x →
    drop i xs ≡ x ∷ drop (i + 1) xs
split_at xs i x below is = drop-cons xs i x below ∙ ap (λ y. y ∷ drop (suc i) xs) (sym is)
    ∙ ap (λ n. x ∷ drop n xs) (sym (add-one i))

-- a list of one element
pub single : {X : Type 0} (xs : List X) (x : X) → length xs ≡ 1 → x ≡ get_or xs 0 x → xs ≡ x ∷ []
single [] x one is = absurd (omega arith)
single (y ∷ []) x one is = ap (λ z. z ∷ []) (sym is)
single (y ∷ z ∷ zs) x one is = absurd (omega arith)
