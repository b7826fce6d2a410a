-- The place of an id is found by halves, since the numbers of the open ids rise.
use Rattle.std.proofs.Common.{◌≡◌, ◌∙◌, ℕ, zero, suc, ◌+◌, ◌<◌, ◌≤◌, ◌==◌, Bool, cond, length, get_or, List, [], ◌∷◌, ◌++◌, Some, None, IfSome, Result, Ok, Err, sym, ap, refl, arith}
use Rattle.std.proofs.lemmas.Bool.{eqb-true, false_from_ne_true}
use Rattle.std.proofs.lemmas.Bool.Decides.{nat_tests}
use Rattle.std.proofs.lemmas.Cmp.{ranked}
use Rattle.std.proofs.lemmas.List.{get_or_default}
use Rattle.std.specs.List.{position}
use Rattle.std.specs.List.Sorted.{IsSearchInRange, IsBinarySearchResult, IsNonDecreasingBy}
use Rattle.std.specs.Option.{option_map}
use Rattle.std.specs.Ordering.{nat_cmp, ordering_index}
use Rattle.std.specs.declared.cmp.Ordering.TheVariants.{Equal}
use Rattle.std.specs.Result.{result_ok}
use Rattle.acts.specs.declared.id.Id.{Id}
use Rattle.choices.proofs.Lines.{place, place-position}
use Rattle.choices.proofs.Rising.{beyond_first, position_here}
use Rattle.choices.specs.Lines.{Line, Rise, numbers}

-- the numbers at two places, of which one is not before the other
risen : (ls : List Line) (more : List ℕ) (i j : ℕ) (d : Line) → Rise (numbers ls ++ more) →
    i ≤ j → j < length ls → (get_or ls i d).id.0 ≤ (get_or ls j d).id.0
risen [] more i j d rise to below = absurd (omega (arith, below))
risen (l ∷ ls) more zero zero d rise to below = omega arith
risen (l ∷ ls) more zero (suc j) d rise to below =
    let less : l.id.0 < (get_or ls j d).id.0 =
    beyond_first l.id.0 ls more j d rise.0 (omega (arith, below)) in omega (arith, less)
risen (l ∷ ls) more (suc i) zero d rise to below = absurd (omega (arith, to))
risen (l ∷ ls) more (suc i) (suc j) d rise to below =
    risen ls more i j d rise.1 (omega (arith, to)) (omega (arith, below))

-- an id that is at no place has none
nowhere : (i : Id) (ls : List Line) →
    ((k : ℕ) (d : Line) → k < length ls → (get_or ls k d).id.0 ≡ i.0 → ⊥) → place i ls ≡ None
nowhere i [] differ = refl
nowhere i (l ∷ ls) differ =
    ap (λ (b : Bool). cond b (Some 0) (option_map (λ k. k + 1) (place i ls)))
    (false_from_ne_true (l.id.0 == i.0)
    (λ same. differ 0 l (omega arith) (eqb-true l.id.0 i.0 same)))
    ∙ ap (option_map (λ k. k + 1))
    (nowhere i ls (λ k d below. differ (suc k) d (omega (arith, below))))

module _ (i : Id) (ls : List Line) (more : List ℕ) (rise : Rise (numbers ls ++ more)) where
  -- the comparisons of an id with those at the places rise, as a search by halves asks
  compared : IsNonDecreasingBy (λ (l : Line). ordering_index (nat_cmp l.id.0 i.0)) ls
  compared a b d to below =
      let up = risen ls more a b d rise to below in grind (arith, nat_tests, up)

  -- an id that the search does not find is open nowhere
  missed : (k : ℕ) → IsBinarySearchResult (λ (l : Line). nat_cmp l.id.0 i.0) ls (Err k) →
      (j : ℕ) (d : Line) → j < length ls → (get_or ls j d).id.0 ≡ i.0 → ⊥
  missed k parted j d below same =
      let before = λ (less : j < k). ranked _ i.0 _
      (sym ((parted compared).0 j d (omega arith) less)) in
      let after = λ (from : k ≤ j). ranked _ i.0 _
      (sym ((parted compared).1 j d from below)) in
      grind (arith, before, after)

  -- one that it finds is open there
  found : (k : ℕ) (d : Line) → k < length ls →
      ((d : Line) → nat_cmp (get_or ls k d).id.0 i.0 ≡ Equal) →
      Some k ≡ position (λ l. l.id.0 == i.0) ls
  found k d inside equal =
      let x = get_or ls k d in
      position_here i ls more k x rise inside (get_or_default ls k d x inside)
      (ranked x.id.0 i.0 _ (sym (equal d)))

-- a search by halves answers the place of an id, where it is open
pub by_halves : (i : Id) (ls : List Line) (more : List ℕ) (r : Result ℕ ℕ) →
    Rise (numbers ls ++ more) → IsSearchInRange r (length ls) →
    IsBinarySearchResult (λ (l : Line). nat_cmp l.id.0 i.0) ls r →
    result_ok r ≡ position (λ l. l.id.0 == i.0) ls
by_halves i [] more (Ok k) rise inside equal = absurd (omega (arith, inside))
by_halves i (l ∷ ls) more (Ok k) rise inside equal = found i (l ∷ ls) more rise k l inside equal
by_halves i ls more (Err k) rise inside parted =
    sym (place-position i ls ∙ nowhere i ls (missed i ls more rise k parted))

-- a place that a search answers is one of the list's
pub ok_below : (r : Result ℕ ℕ) (n : ℕ) → IsSearchInRange r n →
    IfSome (result_ok r) (λ place. place < n)
ok_below (Ok k) n inside = inside
ok_below (Err k) n inside = tt
