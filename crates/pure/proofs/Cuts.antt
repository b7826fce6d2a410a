-- Where a text is cut at the bytes that pass a test.
use Rattle.std.proofs.Common.{◌≡◌, ℕ, suc, ◌+◌, ◌<◌, Bool, true, false, List, [], ◌∷◌, length, get_or, take, drop, refl, ap, subst, ◌∙◌, arith}
use Rattle.std.proofs.lemmas.List.Splits.{slice_split-cons_no, slice_split_first}
use Rattle.std.proofs.lemmas.List.Sums.{position_or_len_is}
use Rattle.std.specs.List.{slice_split, onto_first, position_or_len}

module _ (p : ℕ → Bool) where
  -- the cut at the first byte that passes
  pub cut_here : (xs : List ℕ) (i : ℕ) → i < length xs →
      ((k : ℕ) → k < i → p (get_or xs k 0) ≡ false) → p (get_or xs i 0) ≡ true →
      slice_split p xs ≡ take i xs ∷ slice_split p (drop (i + 1) xs)
  cut_here xs i below before here =
      let at : position_or_len p xs ≡ i =
      position_or_len_is p xs i 0 (omega arith) before (λ _. here) in
      subst (λ n. slice_split p xs ≡ take n xs ∷ slice_split p (drop (n + 1) xs)) at
      (slice_split_first p xs 0 (omega arith))

  -- no cut, where no byte passes
  pub cut_nowhere : (xs : List ℕ) → ((k : ℕ) → k < length xs → p (get_or xs k 0) ≡ false) →
      slice_split p xs ≡ xs ∷ []
  cut_nowhere [] none = refl
  cut_nowhere (x ∷ xs) none =
      slice_split-cons_no p x xs (none 0 (omega arith))
      ∙ ap (onto_first x) (cut_nowhere xs (λ k below. none (suc k) (omega arith)))
