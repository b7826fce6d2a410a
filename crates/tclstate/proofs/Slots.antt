-- Which slots are marked after something is put at a name.
use Rattle.std.proofs.Common.{◌≡◌, ◌<◌, ◌⊎◌, inl, inr, ℕ, zero, suc, Bool, true, false, List, [], ◌∷◌, length, Option, Some, None, IsSome, slice_get, slice_set, refl, sym, ap, subst, ◌∙◌, arith, if◌then◌else◌}
use Rattle.std.specs.Str.{bytes_eq}
use Rattle.std.proofs.lemmas.Slice.Eq.{bytes_eq-Decides}
use Rattle.tclstate.specs.Pairs.{found, put}
use Rattle.tclstate.specs.Procs.{Procedure, Procs}
use Rattle.hints.specs.Slot.{slot}
use Rattle.tclstate.specs.Marked.{AreMarked}

module _ {X : Type 0} (key other : List ℕ) (x : X) where
  -- what holds of the rest of two lists holds of both with entries of one key before them
  found_both : (v w : X) (r s : Option X) → (IsSome r → (other ≡ key) ⊎ IsSome s) → (b : Bool) →
      IsSome (if b then Some v else r) → (other ≡ key) ⊎ IsSome (if b then Some w else s)
  found_both v w r s rest true h = inr refl
  found_both v w r s rest false h = rest h

  -- a name that is found after a put is the one that was put, or was found before
  pub found_put : (es : List (List ℕ × X)) → IsSome (found (put es key x) other) →
      (other ≡ key) ⊎ IsSome (found es other)
  found_put [] = by (bytes_eq other key) refl
    where
      by : (b : Bool) → bytes_eq other key ≡ b → IsSome (if b then Some x else None) →
          (other ≡ key) ⊎ IsSome (found {X = X} [] other)
      by true e h = inl ((bytes_eq-Decides other key).0 e)
      by false e h = inr h
  found_put (e ∷ es) = by (found_put es) (bytes_eq key e.0)
    where
      by : (IsSome (found (put es key x) other) → (other ≡ key) ⊎ IsSome (found es other)) →
          (b : Bool) → IsSome (found (if b then (e.0, x) ∷ es else e ∷ put es key x) other) →
          (other ≡ key) ⊎ IsSome (found (e ∷ es) other)
      by rest true = found_both x e.1 (found es other) (found es other) (λ h. inr h)
          (bytes_eq other e.0)
      by rest false = found_both e.1 e.1 (found (put es key x) other) (found es other) rest
          (bytes_eq other e.0)

module _ {X : Type 0} (v : X) where
  -- what is written at an index stands there
  pub get_set_here : (xs : List X) (i : ℕ) → i < length xs →
      slice_get (slice_set xs i v) i ≡ Some v
  get_set_here [] i within = absurd (omega arith)
  get_set_here (x ∷ xs) zero within = refl
  get_set_here (x ∷ xs) (suc i) within = get_set_here xs i (omega arith)

  -- where it stands already it stays, wherever it is written
  pub get_set_still : (xs : List X) (i j : ℕ) → slice_get xs j ≡ Some v →
      slice_get (slice_set xs i v) j ≡ Some v
  get_set_still [] i j h = h
  get_set_still (x ∷ xs) zero zero h = refl
  get_set_still (x ∷ xs) zero (suc j) h = h
  get_set_still (x ∷ xs) (suc i) zero h = h
  get_set_still (x ∷ xs) (suc i) (suc j) h = get_set_still xs i j h

-- where the slot of a name is marked that is put, the slots of all names are marked
pub AreMarked-put : (slots : List Bool) (procs after : Procs) (key : List ℕ) (p : Procedure)
    (s : ℕ) → s ≡ slot key → s < length slots → after ≡ put procs key p →
    AreMarked slots procs → AreMarked (slice_set slots s true) after
AreMarked-put slots procs after key p s at within is marked name there =
    by (found_put key name p procs (subst (λ ps. IsSome (found ps name)) is there))
  where
    by : (name ≡ key) ⊎ IsSome (found procs name) →
        slice_get (slice_set slots s true) (slot name) ≡ Some true
    by (inl same) =
        subst (λ n. slice_get (slice_set slots s true) n ≡ Some true)
        (at ∙ sym (ap slot same)) (get_set_here true slots s within)
    by (inr before) = get_set_still true slots s (slot name) (marked name before)
