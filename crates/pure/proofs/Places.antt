-- What a search finds among the places of a text.
use Rattle.std.proofs.Common.{◌≡◌, ℕ, zero, suc, ◌+◌, ◌<◌, ◌≤◌, Bool, true, false, cond, List, [], ◌∷◌, length, Option, Some, None, ◌⊎◌, inl, inr, find, refl, sym, ap, ◌∙◌, arith}
use Rattle.std.specs.List.{range_with_len}
use Rattle.memchr.specs.Find.{FindsNeedle, FindsLastNeedle}
use Rattle.pure.specs.Strings.Search.{stands_at, places_down, first_place, last_place}
use Rattle.pure.proofs.Stands.{stands, occurs}

not_true : (b : Bool) → (b ≡ true → ⊥) → b ≡ false
not_true true never = absurd (never refl)
not_true false never = refl

-- a test that fails, and one that passes
fails : (b : Bool) (here rest : Option ℕ) → b ≡ false → cond b here rest ≡ rest
fails b here rest is = ap (λ (v : Bool). cond v here rest) is

passes : (b : Bool) (here rest : Option ℕ) → b ≡ true → cond b here rest ≡ here
passes b here rest is = ap (λ (v : Bool). cond v here rest) is

same_or_less : (a k : ℕ) → a ≤ k → (a ≡ k) ⊎ (a < k)
same_or_less zero zero le = inl refl
same_or_less zero (suc k) le = inr (omega arith)
same_or_less (suc a) zero le = absurd (omega arith)
same_or_less (suc a) (suc k) le =
    elim (same_or_less a k (omega arith)) [
      | inl same ↦ inl (ap suc same)
      | inr less ↦ inr (omega arith)
    ]

module _ (p : ℕ → Bool) where
  none_up : (n a : ℕ) → ((j : ℕ) → a ≤ j → j < a + n → p j ≡ false) →
      find p (range_with_len a n) ≡ None
  none_up zero a none = refl
  none_up (suc n) a none =
      fails (p a) (Some a) (find p (range_with_len (a + 1) n)) (none a (omega arith) (omega arith))
      ∙ none_up n (a + 1) (λ j low high. none j (omega arith) (omega arith))

  found_up : (n a k : ℕ) → a ≤ k → k < a + n → p k ≡ true →
      ((j : ℕ) → a ≤ j → j < k → p j ≡ false) → find p (range_with_len a n) ≡ Some k
  found_up zero a k low high here before = absurd (omega arith)
  found_up (suc n) a k low high here before =
      let rest = find p (range_with_len (a + 1) n) in
      elim (same_or_less a k low) [
        | inl same ↦ passes (p a) (Some a) rest (ap p same ∙ here) ∙ ap Some same
        | inr less ↦ fails (p a) (Some a) rest (before a (omega arith) less)
            ∙ found_up n (a + 1) k (omega arith) (omega arith) here
            (λ j low high. before j (omega arith) high)
      ]

  none_down : (n : ℕ) → ((j : ℕ) → j < n → p j ≡ false) → find p (places_down n) ≡ None
  none_down zero none = refl
  none_down (suc n) none =
      fails (p n) (Some n) (find p (places_down n)) (none n (omega arith))
      ∙ none_down n (λ j below. none j (omega arith))

  found_down : (n k : ℕ) → k < n → p k ≡ true → ((j : ℕ) → k < j → j < n → p j ≡ false) →
      find p (places_down n) ≡ Some k
  found_down zero k below here behind = absurd (omega arith)
  found_down (suc n) k below here behind =
      let rest = find p (places_down n) in
      elim (same_or_less k n (omega arith)) [
        | inl same ↦ passes (p n) (Some n) rest (ap p (sym same) ∙ here) ∙ ap Some (sym same)
        | inr less ↦ fails (p n) (Some n) rest (behind n less (omega arith))
            ∙ found_down n k less here (λ j low high. behind j low (omega arith))
      ]

-- what a search for the first place gives
pub first_found : (needle text : List ℕ) (r : Option ℕ) → 0 < length needle →
    FindsNeedle text needle 0 r → r ≡ first_place needle text
first_found [] text r some found = absurd (omega arith)
first_found (c ∷ w) text None some none =
    sym
    (none_up (stands_at (c ∷ w) text) (length text) 0
    (λ j low high. not_true (stands_at (c ∷ w) text j)
    (λ is. none j (omega arith) (omega arith) (occurs (c ∷ w) text j some is))))
first_found (c ∷ w) text (Some k) some found =
    let fits = found.1.fits in
    sym
    (found_up (stands_at (c ∷ w) text) (length text) 0 k (omega arith) (omega arith)
    (stands (c ∷ w) text k found.1)
    (λ j low high. not_true (stands_at (c ∷ w) text j)
    (λ is. found.0.before j (omega arith) high (occurs (c ∷ w) text j some is))))

-- what a search for the last place gives
pub last_found : (needle text : List ℕ) (r : Option ℕ) → 0 < length needle →
    FindsLastNeedle text needle r → r ≡ last_place needle text
last_found [] text r some found = absurd (omega arith)
last_found (c ∷ w) text None some none =
    sym
    (none_down (stands_at (c ∷ w) text) (length text)
    (λ j high. not_true (stands_at (c ∷ w) text j)
    (λ is. none j (omega arith) (omega arith) (occurs (c ∷ w) text j some is))))
last_found (c ∷ w) text (Some k) some found =
    let fits = found.1.fits in
    sym
    (found_down (stands_at (c ∷ w) text) (length text) k (omega arith)
    (stands (c ∷ w) text k found.1)
    (λ j low high. not_true (stands_at (c ∷ w) text j)
    (λ is. found.0.after j (omega arith) (omega arith) (occurs (c ∷ w) text j some is))))
