-- What is at an index at which a key stands is what a look-up of the key finds.
use Rattle.std.proofs.Common.{◌≡◌, ℕ, zero, suc, Bool, true, false, cond, List, [], ◌∷◌, Some, None, option_map, slice_get, get_or, length, ◌<◌, Option, IfSome, position, nat_eq, arith, refl, sym, ap, ◌∙◌, subst, true≢false}
use Rattle.std.specs.Cmp.Lexicographic.{pointwise}
use Rattle.std.specs.List.{IsDistinct, AllByRecursion}
use Rattle.std.specs.Map.{lookup, set_value, keys_of, values_of}
use Rattle.std.specs.Str.{bytes_eq}
use Rattle.std.specs.declared.vec.Vec.{Vec}
use Rattle.std.proofs.lemmas.List.Quantifiers.{position-Some}
use Rattle.std.proofs.lemmas.Slice.Eq.{bytes_eq-Decides}
use Rattle.indexmap.specs.IndexMap.{set_value_at}

-- two texts that differ differ in either order
unlike : (a b : List ℕ) → bytes_eq a b ≡ false → bytes_eq b a ≡ false
unlike a b h = by (bytes_eq b a) refl
  where
    by : (r : Bool) → bytes_eq b a ≡ r → r ≡ false
    by true e =
        absurd (true≢false (sym ((bytes_eq-Decides a b).1 (sym ((bytes_eq-Decides b a).0 e))) ∙ h))
    by false e = refl

module _ {A X : Type 0} (key : List ℕ) where
  -- the key stands at the index
  abbrev stands : List (Vec ℕ A × X) → ℕ → Type 0
  stands es i = option_map (λ e. e.0.items) (slice_get es i) ≡ Some key

  -- a key before it is another one
  apart : (k : Vec ℕ A) (es : List (Vec ℕ A × X)) (i : ℕ) →
      AllByRecursion (λ y. pointwise nat_eq k.items y.items ≡ false) (keys_of es) → stands es i →
      bytes_eq key k.items ≡ false
  apart k [] i all at = cc
  apart k (e ∷ es) zero all at =
      let is : e.0.items ≡ key = cc in
      unlike k.items key (subst (λ t. bytes_eq k.items t ≡ false) is all.0)
  apart k (e ∷ es) (suc i) all at = apart k es i all.1 at

  -- the key of the first entry is the key, where it stands first
  first : (e : Vec ℕ A × X) (es : List (Vec ℕ A × X)) → stands (e ∷ es) 0 →
      bytes_eq key e.0.items ≡ true
  first e es at = let is : key ≡ e.0.items = cc in (bytes_eq-Decides key e.0.items).1 is

  -- the key stands where it is read
  stands_read : (es : List (Vec ℕ A × X)) (i : ℕ) (d : Vec ℕ A) → i < length (keys_of es) →
      bytes_eq key (get_or (keys_of es) i d).items ≡ true → stands es i
  stands_read [] i d within is = absurd (omega arith)
  stands_read (e ∷ es) zero d within is = ap Some (sym ((bytes_eq-Decides key e.0.items).0 is))
  stands_read (e ∷ es) (suc i) d within is = stands_read es i d (omega arith) is

  -- the key stands at its index
  pub stands_at_index : (es : List (Vec ℕ A × X)) (r : Option ℕ) →
      r ≡ position (λ k. pointwise nat_eq key k.items) (keys_of es) → IfSome r (stands es)
  stands_at_index es None is = tt
  stands_at_index [] (Some i) is = cc
  stands_at_index (e ∷ es) (Some i) is =
      let at = position-Some (λ k. pointwise nat_eq key k.items) (keys_of (e ∷ es)) i e.0 (sym is)
      in stands_read (e ∷ es) i e.0 at.0 at.1

  -- what a look-up finds
  pub lookup_at : (es : List (Vec ℕ A × X)) (i : ℕ) →
      IsDistinct (λ a b. pointwise nat_eq a.items b.items) (keys_of es) → stands es i →
      slice_get (values_of es) i ≡ lookup (λ k. pointwise nat_eq key k.items) es
  unfolding IsDistinct
  lookup_at [] i distinct at = refl
  lookup_at (e ∷ es) zero distinct at =
      sym (ap (λ b. cond b (Some e.1) (lookup (λ k. pointwise nat_eq key k.items) es))
      (first e es at))
  lookup_at (e ∷ es) (suc i) distinct at =
      lookup_at es i distinct.1 at
      ∙ sym (ap (λ b. cond b (Some e.1) (lookup (λ k. pointwise nat_eq key k.items) es))
      (apart e.0 es i distinct.0 at))

  -- what a write at the key makes
  pub set_at : (es : List (Vec ℕ A × X)) (i : ℕ) (w : X) →
      IsDistinct (λ a b. pointwise nat_eq a.items b.items) (keys_of es) → stands es i →
      set_value_at es i w ≡ set_value (λ k. pointwise nat_eq key k.items) es w
  unfolding IsDistinct
  set_at [] i w distinct at = refl
  set_at (e ∷ es) zero w distinct at =
      sym (ap (λ b. cond b ((e.0, w) ∷ es)
      (e ∷ set_value (λ k. pointwise nat_eq key k.items) es w)) (first e es at))
  set_at (e ∷ es) (suc i) w distinct at =
      ap (λ r. e ∷ r) (set_at es i w distinct.1 at)
      ∙ sym (ap (λ b. cond b ((e.0, w) ∷ es)
      (e ∷ set_value (λ k. pointwise nat_eq key k.items) es w)) (apart e.0 es i distinct.0 at))
