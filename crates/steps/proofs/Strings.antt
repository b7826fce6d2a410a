-- The words of a switch, and the operand on top, which stays there.
use Rattle.std.proofs.Common.{◌≡◌, ◌∙◌, ℕ, zero, suc, ◌-◌, List, [], ◌∷◌, ◌++◌, Some, length, take, append_assoc, ap, arith}
use Rattle.std.specs.Prelude.{reverse, slice_get}
use Rattle.std.proofs.lemmas.List.{reverse-append}

-- what is put after the name of the command, piece by piece
pub words_put : (new one two three four all flag dashes after : List (List ℕ))
    (name text : List ℕ) → new ≡ [] → one ≡ new ++ name ∷ [] → two ≡ one ++ flag →
    three ≡ two ++ dashes → four ≡ three ++ text ∷ [] → all ≡ four ++ after →
    all ≡ (name ∷ flag ++ dashes) ++ text ∷ after
words_put new one two three four all flag dashes after name text none first second third fourth
    last =
    last
    ∙ ap (λ ws. ws ++ after) (fourth ∙ ap (λ ws. ws ++ text ∷ []) (third
    ∙ ap (λ ws. ws ++ dashes) (second ∙ ap (λ ws. ws ++ flag) (first
    ∙ ap (λ ws. ws ++ name ∷ []) none))))
    ∙ append_assoc (name ∷ flag ++ dashes) (text ∷ []) after

module _ {V : Type 0} where
  -- all but the last one, and that
  last_split : (xs : List V) (i : ℕ) (v : V) → length xs ≡ suc i → Some v ≡ slice_get xs i →
      xs ≡ take i xs ++ v ∷ []
  last_split [] i v many is = absurd (omega arith)
  last_split (x ∷ []) zero v many is = let same : x ≡ v = cc in ap (λ y. y ∷ []) same
  last_split (x ∷ []) (suc i) v many is = absurd (omega arith)
  last_split (x ∷ y ∷ xs) zero v many is = absurd (omega arith)
  last_split (x ∷ y ∷ xs) (suc i) v many is =
      ap (λ ys. x ∷ ys) (last_split (y ∷ xs) i v (omega arith) is)

  some_last : (xs : List V) (v : V) → Some v ≡ slice_get xs (length xs - 1) →
      xs ≡ take (length xs - 1) xs ++ v ∷ []
  some_last [] v is = absurd cc
  some_last (x ∷ xs) v is = last_split (x ∷ xs) (length (x ∷ xs) - 1) v (omega arith) is

  -- the last one is on top of the others
  pub last_on_top : (xs : List V) (v : V) → Some v ≡ slice_get xs (length xs - 1) →
      reverse xs ≡ v ∷ reverse (take (length xs - 1) xs)
  last_on_top xs v is =
      ap reverse (some_last xs v is) ∙ reverse-append (take (length xs - 1) xs) (v ∷ [])
