-- What the places of the runs say of where the whole pattern sits.
use Rattle.std.proofs.Common.{◌≡◌, ℕ, ◌+◌, ◌-◌, ◌≤◌, Bool, true, false, List, [], ◌∷◌, ◌++◌, length, map, drop, refl, sym, ◌∙◌, ap, subst, inl, inr, arith, IsTrue, Option, Some, None, MatchOption, is_some}
use Rattle.std.proofs.lemmas.List.{append-nil, length-drop, length-map, take_all}
use Rattle.std.specs.Prelude.{slice_range}
use Rattle.std.proofs.lemmas.Bool.{cases_lt, false≢true}
use Rattle.patterns.specs.Glob.{exact}
use Rattle.patterns.specs.Item.{Item, literal, any_run, Reading}
use Rattle.patterns.specs.Match.{Whole, Sits, SitsNowhere, IsFound}
use Rattle.patterns.specs.Runs.{IsFixed, Leaves, IsPlace, IsFirstPlace, FitsNowhere, IsFurthest, EndsNowhere}
use Rattle.patterns.specs.declared.search.Found.{Found}
use Rattle.patterns.proofs.RunItems.{IsFixed-text}
use Rattle.patterns.proofs.Spans.{Fits-length, Leaves-behind_run, Leaves-join_run, Leaves-from_range, Leaves-range, drop_once}
use Rattle.patterns.proofs.Stars.{drop_behind, Leaves-star_run, Leaves-earlier, last_place_of, last_joins}

-- a pattern of these items and ties that folds no letters
abbrev pub with_ties : List Item → Bool → Bool → Reading
with_ties items at_start at_end =
    record { items = items; at_start = at_start; at_end = at_end; folds = false }

-- the last run of a pattern has no place: the pattern has no end
pub none_furthest : (all run : List Item) (w : List ℕ) (place from n : ℕ) (tied : Bool) →
    IsFixed run → n ≡ length run → from ≤ length w →
    ((u : List ℕ) → Leaves (any_run ∷ all) (drop place w) u →
    Leaves (any_run ∷ run) (drop from w) u) →
    ((k : ℕ) → (from ≤ k) × (IsTrue tied → k + n ≡ length w) → ¬ IsPlace run w k) →
    EndsNowhere (any_run ∷ all) tied w place
none_furthest all run w place from n tied fixed size inside to none e is_end leaves =
    let last = last_place_of run w from e inside is_end.0 fixed (to (drop e w) leaves) in
    none last.0 (last.1, λ t. omega (arith, is_end.1 t, last.3, size)) last.2

-- the last place of the last run gives the greatest end
pub last_is_furthest : (all run : List Item) (w : List ℕ) (place from n k : ℕ) (tied : Bool) →
    IsFixed run → n ≡ length run → from ≤ length w →
    ((u : List ℕ) → Leaves (any_run ∷ all) (drop place w) u →
    Leaves (any_run ∷ run) (drop from w) u) →
    ((u : List ℕ) → Leaves (any_run ∷ run) (drop from w) u →
    Leaves (any_run ∷ all) (drop place w) u) →
    IsPlace run w k → from ≤ k → (IsTrue tied → k + n ≡ length w) →
    ((j : ℕ) → (from ≤ j) × (IsTrue tied → j + n ≡ length w) → IsPlace run w j → j ≤ k) →
    IsFurthest (any_run ∷ all) tied w place (k + n)
last_is_furthest all run w place from n k tied fixed size inside to back here low ends greatest =
    let same : k + length run ≡ k + n = omega arith in
    record {
      is_end = (omega (arith, here.room), ends);
      leaves = back (drop (k + n) w)
          (subst (λ (e : ℕ). Leaves (any_run ∷ run) (drop from w) (drop e w)) same
          (last_joins run w from k low fixed here));
      greatest = λ e is_end leaves.
          let last = last_place_of run w from e inside is_end.0 fixed (to (drop e w) leaves) in
          let le : last.0 ≤ k = greatest last.0 (
            last.1,
            λ t. omega (arith, is_end.1 t, last.3, size),
          ) last.2 in
          omega (arith, last.3);
    }

-- an inner run has no place: the pattern has no end
pub none_inside : (all run more : List Item) (w : List ℕ) (place from : ℕ) (tied : Bool) →
    IsFixed run → from ≤ length w →
    ((u : List ℕ) → Leaves (any_run ∷ all) (drop place w) u →
    Leaves (any_run ∷ (run ++ any_run ∷ more)) (drop from w) u) →
    FitsNowhere run w from → EndsNowhere (any_run ∷ all) tied w place
none_inside all run more w place from tied fixed inside to none e is_end leaves =
    let inner = Leaves-star_run run (any_run ∷ more) w (drop e w) from inside fixed
    (to (drop e w) leaves) in
    none inner.0 inner.1 inner.2

-- where a pattern of one run sits, the run has its place
only_sits : (run : List Item) (at_start at_end : Bool) (w : List ℕ) (s e : ℕ) → IsFixed run →
    Sits (with_ties run at_start at_end) w s e → IsPlace run w s
    × (s + length run ≡ e)
only_sits run at_start at_end w s e fixed sits =
    let leaves = Leaves-from_range run w s e sits.ordered sits.whole in
    let longer = subst (λ (x : List Item). Leaves x (drop s w) (drop e w)) (sym (append-nil run))
    leaves in
    let parts = Leaves-behind_run run [] (drop s w) (drop e w) fixed longer in
    let room : s + length run ≤ length w =
    omega (
      arith,
      Fits-length run (drop s w) parts.0,
      length-drop s w,
      sits.ordered,
      sits.within,
    ) in
    let behind : drop (s + length run) w ≡ drop e w =
    sym (drop_behind w s (length run) (s + length run) refl) ∙ parts.1 in
    (record { room = room; fits = parts.0 }, drop_once w (s + length run) e room sits.within behind)

-- a run sits at its place
pub only_sits_there : (run : List Item) (at_start at_end : Bool) (w : List ℕ) (s e : ℕ) → IsFixed run →
    IsPlace run w s → s + length run ≡ e →
    (IsTrue at_start → s ≡ 0) → (IsTrue at_end → e ≡ length w) →
    Sits (with_ties run at_start at_end) w s e
only_sits_there run at_start at_end w s e fixed place sum start end =
    let behind : drop (length run) (drop s w) ≡ drop e w = drop_behind w s (length run) e sum in
    let joined = Leaves-join_run run [] (drop s w) (drop e w) fixed place.fits behind in
    let leaves = subst (λ (x : List Item). Leaves x (drop s w) (drop e w)) (append-nil run) joined
    in
    let range = Leaves-range run w s e (omega (arith, place.room)) (omega (arith, place.room))
    leaves in
    record {
      ordered = range.0;
      within = omega (arith, place.room);
      whole = range.1;
      at_start =
          start;
      at_end = end;
    }

pub only_nowhere : (items run : List Item) (at_start at_end : Bool) (w : List ℕ) (n : ℕ) → items
    ≡ run → IsFixed run → n ≡ length run →
    ((k : ℕ) → (IsTrue at_start → k ≡ 0) × (IsTrue at_end → k + n ≡ length w) → ¬ IsPlace run w k) →
    SitsNowhere (with_ties items at_start at_end) w
only_nowhere items run at_start at_end w n same fixed size none =
    subst (λ (x : List Item). SitsNowhere (with_ties x at_start at_end) w) (sym same)
    (λ s e sits.
    let there = only_sits run at_start at_end w s e fixed sits in
    none s (sits.at_start, λ t. omega (arith, sits.at_end t, there.1, size)) there.0)

pub only_found : (items run : List Item) (at_start at_end : Bool) (w : List ℕ) (n k : ℕ) → items
    ≡ run → IsFixed run → n ≡ length run →
    IsPlace run w k → (IsTrue at_start → k ≡ 0) × (IsTrue at_end → k + n ≡ length w) →
    ((j : ℕ) → (IsTrue at_start → j ≡ 0) × (IsTrue at_end → j + n ≡ length w) → IsPlace run w j →
    k ≤ j) →
    IsFound (with_ties items at_start at_end) w k (k + n)
only_found items run at_start at_end w n k same fixed size here ties least =
    let sum : k + length run ≡ k + n = omega arith in
    subst (λ (x : List Item). IsFound (with_ties x at_start at_end) w
    k (k + n)) (sym same)
    record {
      sits = only_sits_there run at_start at_end w k (k + n) fixed here sum ties.0 ties.1;
      least_start = λ s e sits.
          let there = only_sits run at_start at_end w s e fixed sits in
          least s (sits.at_start, λ t. omega (arith, sits.at_end t, there.1, size)) there.0;
      greatest_end = λ e sits. let there = only_sits run at_start at_end w k e fixed sits in
          omega (arith, there.1, size);
    }

-- where a pattern with a `*` sits, its first run has its place, and the rest ends after it
starred_sits : (run more : List Item) (at_start at_end : Bool) (w : List ℕ) (s e : ℕ) →
    IsFixed run →
    Sits (with_ties (run ++ any_run ∷ more) at_start at_end) w s e →
    IsPlace run w s × Leaves (any_run ∷ more) (drop (s + length run) w) (drop e w)
starred_sits run more at_start at_end w s e fixed sits =
    let leaves = Leaves-from_range (run ++ any_run ∷ more) w s e sits.ordered sits.whole in
    let parts = Leaves-behind_run run (any_run ∷ more) (drop s w) (drop e w) fixed leaves in
    let room : s + length run ≤ length w =
    omega (
      arith,
      Fits-length run (drop s w) parts.0,
      length-drop s w,
      sits.ordered,
      sits.within,
    ) in (
      record { room = room; fits = parts.0 },
      subst (λ (x : List ℕ). Leaves (any_run ∷ more) x (drop e w))
          (drop_behind w s (length run) (s + length run) refl) parts.1,
    )

-- the first run has no place: the pattern sits nowhere
pub start_nowhere : (items run more : List Item) (at_start at_end : Bool) (w : List ℕ) → items ≡ run
    ++ any_run ∷ more → IsFixed run →
    ((k : ℕ) → (IsTrue at_start → k ≡ 0) → ¬ IsPlace run w k) →
    SitsNowhere (with_ties items at_start at_end) w
start_nowhere items run more at_start at_end w same fixed none =
    subst (λ (x : List Item). SitsNowhere (with_ties x at_start at_end) w) (sym same)
    (λ s e sits. none s sits.at_start (starred_sits run more at_start at_end w s e fixed sits).0)

-- after the first run's first place there is no end: the pattern sits nowhere
pub end_nowhere : (items run more : List Item) (at_start at_end : Bool) (w : List ℕ) (n k : ℕ) →
    items ≡ run ++ any_run ∷ more → IsFixed run → n ≡ length run →
    ((j : ℕ) → (IsTrue at_start → j ≡ 0) → IsPlace run w j → k ≤ j) →
    EndsNowhere (any_run ∷ more) at_end w (k + n) →
    SitsNowhere (with_ties items at_start at_end) w
end_nowhere items run more at_start at_end w n k same fixed size least none =
    subst (λ (x : List Item). SitsNowhere (with_ties x at_start at_end) w) (sym same)
    (λ s e sits.
    let parts = starred_sits run more at_start at_end w s e fixed sits in
    let first : k ≤ s = least s sits.at_start parts.0 in
    let leaves = Leaves-earlier more w (drop e w) (k + n) (s + length run) (omega arith)
    parts.0.room parts.1 in
    none e (sits.within, sits.at_end) leaves)

-- the first run's first place and the greatest end after it
pub starred_found : (items run more : List Item) (at_start at_end : Bool) (w : List ℕ) (n k e : ℕ) →
    items ≡ run ++ any_run ∷ more → IsFixed run → n ≡ length run →
    IsPlace run w k → (IsTrue at_start → k ≡ 0) →
    ((j : ℕ) → (IsTrue at_start → j ≡ 0) → IsPlace run w j → k ≤ j) →
    IsFurthest (any_run ∷ more) at_end w (k + n) e →
    IsFound (with_ties items at_start at_end) w k e
starred_found items run more at_start at_end w n k e same fixed size here start least furthest =
    let there : k + n ≡ k + length run = omega arith in
    let behind = subst (λ (m : ℕ). Leaves (any_run ∷ more) (drop m w) (drop e w)) there
    furthest.leaves in
    let at_run = subst (λ (x : List ℕ). Leaves (any_run ∷ more) x (drop e w))
    (sym (drop_behind w k (length run) (k + length run) refl)) behind in
    let leaves = Leaves-join_run run (any_run ∷ more) (drop k w) (drop e w) fixed here.fits at_run
    in
    let range = Leaves-range (run ++ any_run ∷ more) w k e (omega (arith, here.room))
    furthest.is_end.0 leaves in
    subst (λ (x : List Item). IsFound (with_ties x at_start at_end) w
    k e) (sym same)
    record {
      sits = record {
        ordered = range.0;
        within = furthest.is_end.0;
        whole = range.1;
        at_start =
            start;
        at_end = furthest.is_end.1;
      };
      least_start = λ s' e' sits. least s' sits.at_start
          (starred_sits run more at_start at_end w s' e' fixed sits).0;
      greatest_end = λ e' sits.
          let parts = starred_sits run more at_start at_end w k e' fixed sits in
          furthest.greatest e' (sits.within, sits.at_end)
          (subst (λ (m : ℕ). Leaves (any_run ∷ more) (drop m w) (drop e' w)) (sym there)
          parts.1);
    }

-- a pattern that is tied at both ends is found where its items take the whole text
pub whole_iff_found : (items : List Item) (w : List ℕ) (found : Option Found) →
    MatchOption found
    (SitsNowhere (with_ties items true true) w)
    (λ f. IsFound (with_ties items true true) w f.start f.end) →
    (IsTrue (is_some found) → Whole items w) × (Whole items w → IsTrue (is_some found))
whole_iff_found items w None nowhere = (
  λ never. absurd (false≢true never),
  λ whole. absurd (nowhere 0 (length w) record {
    ordered = omega arith;
    within = omega arith;
    whole = subst (λ (x : List ℕ). Whole items x) (sym (take_all (length w - 0) w (omega arith)))
        whole;
    at_start = λ _. refl;
    at_end = λ _. refl;
  }),
)
whole_iff_found items w (Some f) found =
    let starts : f.start ≡ 0 = found.sits.at_start refl in
    let ends : f.end ≡ length w = found.sits.at_end refl in
    let range : slice_range w f.start f.end ≡ w =
    ap (λ (s : ℕ). slice_range w s f.end) starts ∙ ap (λ (e : ℕ). slice_range w 0 e) ends
    ∙ take_all (length w - 0) w (omega arith) in
    (λ _. subst (λ (x : List ℕ). Whole items x) range found.sits.whole, λ _. refl)

untied : (n m : ℕ) → IsTrue false → n ≡ m
untied n m tied = absurd (false≢true tied)

-- a text that begins nowhere before `from` has its places at or after it
low_place : (text w : List ℕ) (from k : ℕ) → ((s e : ℕ) → Sits (exact text) w s e → from ≤ s) →
    IsPlace (map literal text) w k → from ≤ k
low_place text w from k low here =
    low k (k + length (map literal text))
    (only_sits_there (map literal text) false false w k (k + length (map literal text))
    (IsFixed-text text) here refl (untied k 0) (untied (k + length (map literal text)) (length w)))

-- a text that stands nowhere before `from`, and whose first place from there on is known
pub text_found : (text w : List ℕ) (from : ℕ) (r : Option ℕ) →
    ((s e : ℕ) → Sits (exact text) w s e → from ≤ s) →
    MatchOption r (FitsNowhere (map literal text) w from) (IsFirstPlace (map literal text) w from) →
    MatchOption r (SitsNowhere (exact text) w)
    (λ place. IsFound (exact text) w place (place + length text))
text_found text w from None low none =
    only_nowhere (map literal text) (map literal text) false false w (length text) refl
    (IsFixed-text text) (sym (length-map text literal))
    (λ k ties here. none k (low_place text w from k low here) here)
text_found text w from (Some place) low first =
    only_found (map literal text) (map literal text) false false w (length text) place refl
    (IsFixed-text text) (sym (length-map text literal)) first.here (untied place 0, untied (place + length text) (length w))
    (λ j ties here. elim (cases_lt j place) [
      | inl before ↦ absurd (first.before j (low_place text w from j low here) before here)
      | inr behind ↦ behind
    ])
