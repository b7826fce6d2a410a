-- Runs whose ends depend on the number of their answers.
use Rattle.std.proofs.Common.{◌≡◌, ◌∙◌, ℕ, zero, suc, ◌+◌, List, [], ◌∷◌, length, take, refl, sym, ap, ap₂, arith}
use Rattle.plan.specs.Answers.{Event, Performs, Over, events, GoAlike}

module _ {D R X Y : Type 0} (told : ℕ → X → Y) where
  -- the events of a run, with an end that depends on the number of its answers and m more
  tells : ℕ → List (D × R) → X → List (Event D Y)
  tells m h x = events h (told (m + length h) x)

  -- events that are the same up to a place stay so where the ends depend on the number of answers
  pub told_same : (m n : ℕ) (h k : List (D × R)) (x y : X) →
      take n (events h x) ≡ take n (events k y) →
      take n (events h (told (m + length h) x)) ≡ take n (events k (told (m + length k) y))
  told_same m zero h k x y same = refl
  told_same m (suc n) [] [] x y same =
      let one : List (Event D X) = Over x ∷ take n [] in
      let other : List (Event D X) = Over y ∷ take n [] in
      let heads : one ≡ other = same in
      let end : x ≡ y = cc in
      ap (λ z. take (suc n) (events {D = D} {R = R} [] (told (m + 0) z))) end
  told_same m (suc n) [] (b ∷ k) x y same =
      let one : List (Event D X) = Over x ∷ take n [] in
      let other : List (Event D X) = Performs b.0 ∷ take n (events k y) in
      let clash : one ≡ other = same in absurd (cc)
  told_same m (suc n) (a ∷ h) [] x y same =
      let one : List (Event D X) = Performs a.0 ∷ take n (events h x) in
      let other : List (Event D X) = Over y ∷ take n [] in
      let clash : one ≡ other = same in absurd (cc)
  told_same m (suc n) (a ∷ h) (b ∷ k) x y same =
      let one : List (Event D X) = Performs a.0 ∷ take n (events h x) in
      let other : List (Event D X) = Performs b.0 ∷ take n (events k y) in
      let both : one ≡ other = same in
      let act : a.0 ≡ b.0 = cc in
      let rest : take n (events h x) ≡ take n (events k y) = cc in
      let on = told_same (suc m) n h k x y rest in
      let here : m + suc (length h) ≡ suc m + length h = omega arith in
      let there : m + suc (length k) ≡ suc m + length k = omega arith in
      ap₂ (λ d (es : List (Event D Y)). Performs d ∷ es) act
      (ap (λ i. take n (events h (told i x))) here ∙ on
      ∙ ap (λ i. take n (events k (told i y))) (sym there))

  -- runs that go alike still do where their ends depend on the number of answers
  pub told_alike : (h k : List (D × R)) (x y : X) → GoAlike h x k y →
      GoAlike h (told (length h) x) k (told (length k) y)
  told_alike h k x y alike n given =
      let told_from_0 = told_same 0 (suc n) h k x y (alike n given) in
      let none : 0 + length h ≡ length h = omega arith in
      let other : 0 + length k ≡ length k = omega arith in
      ap (λ i. take (suc n) (events h (told i x))) (sym none) ∙ told_from_0
      ∙ ap (λ i. take (suc n) (events k (told i y))) other
