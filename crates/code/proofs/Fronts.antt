-- Lists by the elements at their front, as the code takes them apart.
use Rattle.std.proofs.Common.{◌≡◌, ◌∙◌, ◌-◌, ◌<◌, ◌≤◌, List, [], ◌∷◌, length, drop, take, get_or, refl, sym, ap, arith}
use Rattle.std.proofs.Math.Seq.{take-length}

module _ {X : Type 0} where
  -- the rest of a list after one element, and after two
  pub behind_one : (x : X) (more : List X) →
      take (length (x ∷ more) - 1) (drop 1 (x ∷ more)) ≡ more
  behind_one x more =
      let n : length (x ∷ more) - 1 ≡ length more = omega arith in rw n (take-length more)

  pub behind_two : (x y : X) (more : List X) →
      take (length (x ∷ y ∷ more) - 2) (drop 2 (x ∷ y ∷ more)) ≡ more
  behind_two x y more =
      let n : length (x ∷ y ∷ more) - 2 ≡ length more = omega arith in rw n (take-length more)

  -- one element and more, and two and more
  pub one_first : (xs : List X) (x : X) → 1 ≤ length xs → x ≡ get_or xs 0 x →
      xs ≡ x ∷ take (length xs - 1) (drop 1 xs)
  one_first [] x one first = absurd (omega arith)
  one_first (a ∷ xs) x one first =
      ap (λ v. v ∷ xs) (sym first) ∙ ap (λ rest. x ∷ rest) (sym (behind_one a xs))

  pub two_first : (xs : List X) (x y : X) → 2 ≤ length xs → x ≡ get_or xs 0 x →
      y ≡ get_or xs 1 y → xs ≡ x ∷ y ∷ take (length xs - 2) (drop 2 xs)
  two_first [] x y two first second = absurd (omega arith)
  two_first (a ∷ []) x y two first second = absurd (omega arith)
  two_first (a ∷ b ∷ xs) x y two first second =
      ap (λ v. v ∷ b ∷ xs) (sym first) ∙ ap (λ v. x ∷ v ∷ xs) (sym second)
      ∙ ap (λ rest. x ∷ y ∷ rest) (sym (behind_two a b xs))

  -- one element alone
  pub one_alone : (xs : List X) (x : X) → 1 ≤ length xs → length xs < 2 → x ≡ get_or xs 0 x →
      xs ≡ x ∷ []
  one_alone [] x one two first = absurd (omega (arith, one))
  one_alone (a ∷ []) x one two first = ap (λ v. v ∷ []) (sym first)
  one_alone (a ∷ b ∷ xs) x one two first = absurd (omega (arith, two))

  pub alone : (xs : List X) → 1 ≤ length xs → length xs < 2 → (x : X) × (xs ≡ x ∷ [])
  alone [] one two = absurd (omega (arith, one))
  alone (x ∷ []) one two = (x, refl)
  alone (x ∷ y ∷ xs) one two = absurd (omega (arith, two))
