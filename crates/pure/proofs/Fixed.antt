-- Places that are named by a number.
use Rattle.std.proofs.Common.{◌≡◌, ℕ, ◌+◌, ◌-◌, inl, inr, false, List, [], ◌∷◌, length, take, drop, slice_get, unwrap_or, codes, Some, Ok, ℤ, pos, refl, sym, ap, subst, ◌∙◌}
use Rattle.std.proofs.lemmas.Bool.Decides.{eqb_tells}
use Rattle.std.specs.Str.{bytes_eq}
use Rattle.meanings.specs.Meaning.{Gives, Comes}
use Rattle.pure.specs.Lindex.{element}
use Rattle.pure.specs.Lrange.{part}
use Rattle.pure.specs.Place.{place_of, whole_of, placed, on_place, item_at, items_from}
use Rattle.tcltext.specs.Canonical.{canonical}

-- no number begins with the first letter of `end`
no_letter : (x : List ℕ) (n : ℤ) → whole_of (101 ∷ x) ≡ Some n → ⊥
no_letter x n is = cc

no_end : (x : List ℕ) (n : ℤ) → whole_of x ≡ Some n → bytes_eq (take 3 x) (codes "end") ≡ false
no_end [] n is = refl
no_end (c ∷ x) n is =
    elim (eqb_tells c 101) [
      | inl p ↦ absurd (no_letter x n (subst (λ d. whole_of (d ∷ x) ≡ Some n) p.1 is))
      | inr p ↦ rw p.0 refl
    ]

-- a number names the same place however many elements there are
pub fixed : (x : List ℕ) (n : ℤ) (place : ℕ) → whole_of x ≡ Some n → n ≡ pos place → (m : ℕ) →
    place_of x m ≡ Some (pos place)
fixed x n place is same m = rw (no_end x n is) (is ∙ ap Some same)

-- the word names this place however many elements there are
abbrev pub IsFixed : List ℕ → ℕ → Type 0
IsFixed word place = (n : ℕ) → place_of word n ≡ Some (pos place)

-- the element at such a place
pub element_there : (v : List (List ℕ)) (index : List ℕ) (place : ℕ) (value : List ℕ) →
    IsFixed index place → value ≡ unwrap_or (slice_get v place) [] →
    Comes (element index v) (Ok value)
element_there v index place value at is =
    subst (λ o. Comes (placed o (codes "lindex") index
    (λ p. Gives (unwrap_or (item_at v p) []))) (Ok value)) (sym (at (length v))) (ap Ok is)

-- the part between two such places
pub part_there : (v : List (List ℕ)) (first last : List ℕ) (from to : ℕ) (value : List ℕ) →
    IsFixed first from → IsFixed last to → value ≡ canonical (take (to + 1 - from) (drop from v)) →
    Comes (part first last v) (Ok value)
part_there v first last from to value one other is =
    subst (λ o. Comes (placed o (codes "lrange") first (λ a. on_place (codes "lrange") last (length v)
    (λ b. Gives (canonical (items_from v a b))))) (Ok value)) (sym (one (length v)))
    (subst (λ o. Comes (placed o (codes "lrange") last
    (λ b. Gives (canonical (items_from v (pos from) b)))) (Ok value)) (sym (other (length v)))
    (ap Ok is))
