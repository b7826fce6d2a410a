-- A pattern sits nowhere where a text that stands among its items stands nowhere.
use Rattle.std.proofs.Common.{◌≡◌, ℕ, ◌+◌, ◌-◌, ◌≤◌, false, Bool, List, [], ◌∷◌, ◌++◌, IsTrue, length, map, take, drop, refl, sym, ◌∙◌, ap, subst, arith, append_assoc}
use Rattle.std.specs.Prelude.{slice_range}
use Rattle.std.proofs.lemmas.Bool.{false≢true}
use Rattle.std.proofs.lemmas.List.{length-drop, length-append, length-take-le, append-nil, take_at, drop_at}
use Rattle.patterns.specs.Item.{Item, Reading, literal}
use Rattle.patterns.specs.Match.{Whole, compared}
use Rattle.patterns.specs.Passed.{Needs}
use Rattle.patterns.specs.Runs.{Holds}
use Rattle.patterns.proofs.Spans.{slice_range-joined}
use Rattle.patterns.proofs.Stars.{drop_behind}

-- the parts of a text that the items in front and those after them take
pub whole_parts : (items more : List Item) (t : List ℕ) → Whole (items ++ more) t →
    (front rest : List ℕ) × (t ≡ front ++ rest) × Whole items front × Whole more rest
whole_parts [] more t whole = ([], t, refl, refl, whole)
whole_parts (item ∷ items) more t (piece, rest, joined, taken, whole) =
    let (front, back, split, ours, theirs) = whole_parts items more rest whole in (
      piece ++ front,
      back,
      joined ∙ ap (λ (x : List ℕ). piece ++ x) split ∙ sym (append_assoc piece front back),
      (piece, front, refl, taken, ours),
      theirs,
    )

-- a part of what stands from s up to e
pub range_inside : (w front part rest : List ℕ) (s e : ℕ) → s ≤ e →
    slice_range w s e ≡ front ++ (part ++ rest) →
    slice_range w (s + length front) (s + length front + length part) ≡ part
range_inside w front part rest s e ordered split =
    let whole : drop s w ≡ front ++ (part ++ (rest ++ drop e w)) =
    sym (slice_range-joined w s e ordered)
    ∙ ap (λ (x : List ℕ). x ++ drop e w) split
    ∙ append_assoc front (part ++ rest) (drop e w)
    ∙ ap (λ (x : List ℕ). front ++ x) (append_assoc part rest (drop e w)) in
    let behind : drop (s + length front) w ≡ part ++ (rest ++ drop e w) =
    sym (drop_behind w s (length front) (s + length front) refl)
    ∙ ap (λ (x : List ℕ). drop (length front) x) whole
    ∙ drop_at front (part ++ (rest ++ drop e w)) (length front) refl in
    let size : s + length front + length part - (s + length front) ≡ length part = omega arith in
    ap (λ (n : ℕ). take n (drop (s + length front) w)) size
    ∙ ap (take (length part)) behind
    ∙ take_at part (rest ++ drop e w) (length part) refl

no_tie : (n m : ℕ) → IsTrue false → n ≡ m
no_tie n m tied = absurd (false≢true tied)

-- the text stands where the pattern sits
pub Holds-needs : (p : Reading) (text : List ℕ) → p.folds ≡ false → Holds p.items text →
    Needs p text
Holds-needs p text plain (before, after, items) = λ w nowhere s e sits.
    let taken = subst (λ (folds : Bool). Whole p.items (compared folds (slice_range w s e))) plain
    sits.whole in
    let (front, more, split, ours, behind) = whole_parts before (map literal text ++ after)
    (slice_range w s e) (subst (λ (x : List Item). Whole x (slice_range w s e)) items taken) in
    let (part, rest, joined, here, theirs) = whole_parts (map literal text) after more behind in
    let parts : slice_range w s e ≡ front ++ (part ++ rest) =
    split ∙ ap (λ (x : List ℕ). front ++ x) joined in
    let size = length-take-le (e - s) (drop s w)
    (omega (arith, sits.ordered, sits.within, length-drop s w)) in
    nowhere (s + length front) (s + length front + length part) record {
      ordered = omega arith;
      within = omega (
        arith,
        sits.ordered,
        sits.within,
        size,
        ap length parts,
        length-append front (part ++ rest),
        length-append part rest,
      );
      whole = subst (Whole (map literal text))
          (sym (range_inside w front part rest s e sits.ordered parts)) here;
      at_start = no_tie (s + length front) 0;
      at_end = no_tie (s + length front + length part) (length w);
    }

-- bytes among items that are themselves part of a longer list of items
pub Holds-within : (items : List Item) (text : List ℕ) (before after all : List Item) →
    all ≡ before ++ (items ++ after) → Holds items text → Holds all text
Holds-within items text before after all is (front, behind, split) = (
  before ++ front,
  behind ++ after,
  is
      ∙ ap (λ (x : List Item). before ++ (x ++ after)) split
      ∙ ap (λ (x : List Item). before ++ x) (append_assoc front (map literal text ++ behind) after)
      ∙ ap (λ (x : List Item). before ++ (front ++ x)) (append_assoc (map literal text) behind after)
      ∙ sym (append_assoc before front (map literal text ++ (behind ++ after))),
)

-- the empty text stands among any items
pub Holds-nothing : (items : List Item) → Holds items []
Holds-nothing items = ([], items, refl)

-- items that are just the bytes hold them
pub Holds-all : (items : List Item) (text : List ℕ) → items ≡ map literal text → Holds items text
Holds-all items text is = ([], [], is ∙ sym (append-nil (map literal text)))

-- the empty text stands everywhere
pub nothing_needed : (p : Reading) → Needs p []
nothing_needed p w nowhere s e sits = nowhere 0 0 record {
  ordered = omega arith;
  within = omega arith;
  whole = refl;
  at_start = no_tie 0 0;
  at_end = no_tie 0 (length w);
}
