-- What a change of a map's entries is to the pairs that contracts see.
use Rattle.std.proofs.Common.{◌≡◌, ℕ, Bool, true, false, List, [], ◌∷◌, Some, refl, ap, nat_eq, if◌then◌else◌}
use Rattle.std.specs.Str.{bytes_eq}
use Rattle.std.specs.Cmp.Lexicographic.{pointwise}
use Rattle.std.specs.Map.{lookup, set_value, remove_entry}
use Rattle.std.specs.Option.{option_map}
use Rattle.std.specs.declared.vec.Vec.{Vec}
use Rattle.indexmap.specs.IndexMap.{insert_entry}
use Rattle.tclstate.specs.Pairs.{found, put, without}
use Rattle.tclstate.specs.Stored.{pairs_of}

module _ {A X Y : Type 0} (seen : X → Y) where
  -- the test of a map's key
  abbrev is_key : List ℕ → Vec ℕ A → Bool
  is_key key k = pointwise nat_eq key k.items

  -- a look-up finds what is seen there
  pub found_lookup : (es : List (Vec ℕ A × X)) (key : List ℕ) → found (pairs_of seen es) key
      ≡ option_map seen (lookup (λ k. pointwise nat_eq key k.items) es)
  found_lookup [] key = refl
  found_lookup (e ∷ es) key = by (found_lookup es key) (bytes_eq key e.0.items)
    where
      by : found (pairs_of seen es) key ≡ option_map seen (lookup (is_key key) es) → (b : Bool) →
          (if b then Some (seen e.1) else found (pairs_of seen es) key)
          ≡ option_map seen (if b then Some e.1 else lookup (is_key key) es)
      by rest true = refl
      by rest false = rest

  -- an insertion is a put
  pub put_insert : (es : List (Vec ℕ A × X)) (k : Vec ℕ A) (v : X) →
      pairs_of seen (insert_entry (λ a b. pointwise nat_eq a.items b.items) es k v)
      ≡ put (pairs_of seen es) k.items (seen v)
  put_insert [] k v = refl
  put_insert (e ∷ es) k v = by (put_insert es k v) (bytes_eq k.items e.0.items)
    where
      by : pairs_of seen (insert_entry (λ a b. pointwise nat_eq a.items b.items) es k v)
          ≡ put (pairs_of seen es) k.items (seen v) → (b : Bool) →
          pairs_of seen (if b then (e.0, v) ∷ es else e
          ∷ insert_entry (λ a b. pointwise nat_eq a.items b.items) es k v)
          ≡ (if b then (e.0.items, seen v) ∷ pairs_of seen es else (e.0.items, seen e.1)
          ∷ put (pairs_of seen es) k.items (seen v))
      by rest true = refl
      by rest false = ap (λ r. (e.0.items, seen e.1) ∷ r) rest

  -- a write in place is a put
  pub put_set : (es : List (Vec ℕ A × X)) (key : List ℕ) (v w : X) →
      lookup (λ k. pointwise nat_eq key k.items) es ≡ Some v →
      pairs_of seen (set_value (λ k. pointwise nat_eq key k.items) es w)
      ≡ put (pairs_of seen es) key (seen w)
  put_set [] key v w h = cc
  put_set (e ∷ es) key v w h = by (put_set es key v w) (bytes_eq key e.0.items) h
    where
      by : (lookup (is_key key) es ≡ Some v → pairs_of seen (set_value (is_key key) es w)
          ≡ put (pairs_of seen es) key (seen w)) → (b : Bool) →
          (if b then Some e.1 else lookup (is_key key) es) ≡ Some v
          → pairs_of seen (if b then (e.0, w) ∷ es else e ∷ set_value (is_key key) es w)
          ≡ (if b then (e.0.items, seen w) ∷ pairs_of seen es else (e.0.items, seen e.1)
          ∷ put (pairs_of seen es) key (seen w))
      by rest true h = refl
      by rest false h = ap (λ r. (e.0.items, seen e.1) ∷ r) (rest h)

  -- a write of what is seen the same changes nothing
  pub set_same : (es : List (Vec ℕ A × X)) (key : List ℕ) (v w : X) →
      lookup (λ k. pointwise nat_eq key k.items) es ≡ Some v → seen w ≡ seen v →
      pairs_of seen (set_value (λ k. pointwise nat_eq key k.items) es w) ≡ pairs_of seen es
  set_same [] key v w h same = refl
  set_same (e ∷ es) key v w h same = by (λ r. set_same es key v w r same) (bytes_eq key e.0.items) h
    where
      by : (lookup (is_key key) es ≡ Some v → pairs_of seen (set_value (is_key key) es w)
          ≡ pairs_of seen es) → (b : Bool) → (if b then Some e.1 else lookup (is_key key) es)
          ≡ Some v
          → pairs_of seen (if b then (e.0, w) ∷ es else e ∷ set_value (is_key key) es w)
          ≡ (e.0.items, seen e.1) ∷ pairs_of seen es
      by rest true h = let at : e.1 ≡ v = cc in let now : seen w ≡ seen e.1 = cc in
          ap (λ y. (e.0.items, y) ∷ pairs_of seen es) now
      by rest false h = ap (λ r. (e.0.items, seen e.1) ∷ r) (rest h)

  -- removing an entry removes the pair
  pub without_removed : (es : List (Vec ℕ A × X)) (key : List ℕ) →
      pairs_of seen (remove_entry (λ k. pointwise nat_eq key k.items) es)
      ≡ without (pairs_of seen es) key
  without_removed [] key = refl
  without_removed (e ∷ es) key = by (without_removed es key) (bytes_eq key e.0.items)
    where
      by : pairs_of seen (remove_entry (is_key key) es) ≡ without (pairs_of seen es) key →
          (b : Bool) → pairs_of seen (if b then es else e ∷ remove_entry (is_key key) es)
          ≡ (if b then pairs_of seen es else (e.0.items, seen e.1) ∷ without (pairs_of seen es) key)
      by rest true = refl
      by rest false = ap (λ r. (e.0.items, seen e.1) ∷ r) rest
