-- The frames, the top one first.
use Rattle.std.proofs.Common.{◌≡◌, ◌∙◌, ℕ, ◌<◌, ◌↔◌, List, [], ◌∷◌, ◌++◌, length, reverse, Option, Some, None, refl, ap, arith}
use Rattle.std.proofs.lemmas.List.{reverse-append}
use Rattle.std.specs.Option.{IsSome, option_to_list}
use Rattle.std.specs.Prelude.{MatchOption}

module _ {X : Type 0} where
  none_left : (old new : List X) → old ≡ new ++ [] → (0 < length old → ⊥) →
      (reverse old ≡ []) × (reverse new ≡ [])
  none_left [] [] items none = (refl, refl)
  none_left [] (x ∷ xs) items none = absurd (cc)
  none_left (x ∷ xs) new items none = absurd (none (omega arith))

  -- what was taken off the end was the first
  pub popped : (result : Option X) (old new : List X) (n : ℕ) → n ≡ length old →
      old ≡ new ++ option_to_list result → (IsSome result ↔ (0 < n)) →
      MatchOption result ((reverse old ≡ []) × (reverse new ≡ []))
      (λ x. reverse old ≡ x ∷ reverse new)
  popped None old new n same items some =
      none_left old new items (λ more. let clash = some.1 (omega (arith, same, more)) in
      absurd (cc))
  popped (Some x) old new n same items some = ap reverse items ∙ reverse-append new (x ∷ [])
