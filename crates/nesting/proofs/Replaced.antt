-- A list whose elements are changed one after the other.
use Rattle.std.proofs.Common.{◌≡◌, ◌∙◌, ℕ, zero, suc, ◌+◌, ◌<◌, List, [], ◌∷◌, ◌++◌, length, drop, take, get_or, map, ap, arith}
use Rattle.std.proofs.Math.ListN.{set}

module _ {X Y : Type 0} (f : X → Y) (g : Y → Y) where
  -- where the element at a place has changed as all are to change, those after it are still to
  -- change
  pub replaced : (xs : List X) (i : ℕ) (x y : X) → i < length xs → x ≡ get_or xs i x →
      f y ≡ g (f x) →
      map f (take (i + 1) (set xs i y)) ++ map g (map f (drop (i + 1) (set xs i y)))
      ≡ map f (take i xs) ++ map g (map f (drop i xs))
  replaced [] i x y lt is same = absurd (omega arith)
  replaced (z ∷ zs) zero x y lt is same =
      ap (λ a. a ∷ map g (map f zs)) (same ∙ ap (λ v. g (f v)) is)
  replaced (z ∷ zs) (suc i) x y lt is same =
      let e : suc i + 1 ≡ suc (i + 1) = omega arith in
      rw e (ap (λ r. f z ∷ r) (replaced zs i x y (omega arith) is same))
