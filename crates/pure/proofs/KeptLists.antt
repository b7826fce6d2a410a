-- What is read of a list that keeps its elements.
use Rattle.std.proofs.Common.{◌≡◌, ◌-◌, ◌≤◌, ℕ, ℤ, pos, negsuc, Bool, true, false, nat_lt, min, List, length, take, drop, slice_get, slice_range, Option, Some, None, Result, refl, sym, ap, subst, ◌∙◌, arith, if◌then◌else◌}
use Rattle.std.proofs.lemmas.Bool.Decides.{nat_tests}
use Rattle.std.proofs.lemmas.List.{drop_min, take_min, length-drop}
use Rattle.std.proofs.lemmas.Option.{slice_get_past}
use Rattle.acts.specs.Flaw as flaw
use Rattle.acts.specs.declared.raise.Raise.{Raise}
use Rattle.meanings.specs.Meaning.{Meaning, Raises}
use Rattle.meanings.specs.View.{Answers}
use Rattle.pure.specs.Place.{item_at, placed, within}
use Rattle.tcltext.proofs.Unique.{one_list}
use Rattle.tcltext.specs.Elements.{IsList}

-- what follows a place that is known
module _ {A : Type 0} (command word : List ℕ) (next : ℤ → Meaning)
    (r : Result (List ℕ) (Raise A)) where
  pub placed_none : (place : Option ℤ) → place ≡ None →
      Answers (Raises (flaw.BadArgument word command)) r →
      Answers (placed place command word next) r
  placed_none place none says = subst (λ p. Answers (placed p command word next) r) (sym none) says

  pub placed_some : (place : Option ℤ) (p : ℤ) → place ≡ Some p → Answers (next p) r →
      Answers (placed place command word next) r
  placed_some place p some says = subst (λ p. Answers (placed p command word next) r) (sym some) says

-- a place beyond the elements has no element
by_test : (v : List (List ℕ)) (n : ℕ) (b : Bool) → nat_lt n (length v) ≡ b →
    (if b then Some n else None) ≡ None → slice_get v n ≡ None
by_test v n true is none = absurd (cc)
by_test v n false is none =
    let past : length v ≤ n = grind (arith, nat_tests) in slice_get_past v n past

pub none_there : (v : List (List ℕ)) (p : ℤ) → within p (length v) ≡ None → item_at v p ≡ None
none_there v (pos n) none = by_test v n (nat_lt n (length v)) refl none
none_there v (negsuc n) none = refl

-- a place within the elements is the index of its element
some_by : (n m : ℕ) (b : Bool) → (if b then Some n else None) ≡ Some m → n ≡ m
some_by n m true is = cc
some_by n m false is = absurd (cc)

pub item_there : (v : List (List ℕ)) (p : ℤ) (n : ℕ) → within p (length v) ≡ Some n →
    item_at v p ≡ slice_get v n
item_there v (pos k) n is = ap (slice_get v) (some_by k n (nat_lt k (length v)) is)
item_there v (negsuc k) n is = absurd (cc)

-- a part by places that are cut off at the number of elements is the part by the places themselves
pub part_same : (v : List (List ℕ)) (a b : ℕ) →
    take (min b (length v) - min a (length v)) (drop (min a (length v)) v) ≡ slice_range v a b
part_same v a b =
    ap (take (min b (length v) - min a (length v))) (drop_min a v)
    ∙ sym (take_min (min b (length v) - min a (length v)) (drop a v))
    ∙ ap (λ n. take n (drop a v)) (same)
    ∙ take_min (b - a) (drop a v)
  where
    same : min (min b (length v) - min a (length v)) (length (drop a v))
        ≡ min (b - a) (length (drop a v))
    same = omega (arith, length-drop a v)

-- two readings of one text have the same number of elements
pub as_many : (text : List ℕ) (v u : List (List ℕ)) (n : ℕ) → IsList v text → IsList u text →
    n ≡ length v → n ≡ length u
as_many text v u n one other is = is ∙ ap length (one_list text v u one other)
