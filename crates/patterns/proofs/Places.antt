-- Where a run of tokens fits, and what a search over places costs.
use Rattle.std.proofs.Common.{◌≡◌, ℕ, ◌+◌, ◌-◌, ◌*◌, ◌<◌, ◌≤◌, true, List, [], ◌∷◌, Bool, IsTrue, length, take, drop, sym, ◌∙◌, ap, subst, ⊎_elim, arith, slice_index}
use Rattle.std.specs.Prelude.{slice_range}
use Rattle.std.proofs.lemmas.List.{length-drop, length-take-le, drop_more, get_or-take, get_or-drop}
use Rattle.std.proofs.lemmas.Bool.{cases_lt}
use Rattle.std.proofs.lemmas.Bool.Decides.{nat_tests}
use Rattle.std.proofs.Math.Nat.{mul-le-mul_left}
use Rattle.patterns.specs.Item.{Item}
use Rattle.memchr.specs.Find.{Passes, is_byte, NoneBefore, NoneAfter, Nowhere}
use Rattle.patterns.specs.Runs.{items_of, TakesFirst, Fits, IsFixed, IsPlace, IsFirstPlace, IsLastPlace}
use Rattle.patterns.specs.declared.token.Token.{Token}
use Rattle.patterns.specs.declared.token.Token.TheVariants.{Literal, AnyByte, Set}
use Rattle.patterns.proofs.Spans.{Fits-length}
use Rattle.patterns.proofs.Texts.{nothing_first, nothing_last}

-- where the items fit what the window has from a place on, the place has room for them
pub place_here : (items : List Item) (w : List ℕ) (p : ℕ) → p ≤ length w → Fits items (drop p w) →
    IsPlace items w p
place_here items w p inside fits = record {
  room = omega (arith, Fits-length items (drop p w) fits, length-drop p w);
  fits = fits;
}

-- the items fit what stands after a place exactly where they have their place there
pub fits_iff_place : (items : List Item) (w behind : List ℕ) (p : ℕ) (fits : Bool) → p ≤ length w →
    behind ≡ drop p w → (IsTrue fits → Fits items behind) × (Fits items behind → IsTrue fits) →
    (IsTrue fits → IsPlace items w p) × (IsPlace items w p → IsTrue fits)
fits_iff_place items w behind p fits inside is both = (
  λ t. place_here items w p inside (subst (λ (x : List ℕ). Fits items x) is (both.0 t)),
  λ here. both.1 (subst (λ (x : List ℕ). Fits items x) (sym is) here.fits),
)

-- where items fit, the first of them takes the byte
pub first_taken : (items : List Item) (w : List ℕ) (k : ℕ) → 1 ≤ length items → IsPlace items w k →
    TakesFirst items (slice_index w k)
first_taken [] w k some here = absurd (omega arith)
first_taken (item ∷ items) w k some here =
    let inside : k < length w = omega (arith, here.room) in
    let split : drop k w ≡ slice_index w k ∷ drop (k + 1) w = drop_more w k 0 inside in
    let fits = subst (λ (x : List ℕ). Fits (item ∷ items) x) split here.fits in
    fits.0

-- the byte at a place of a part of the window
at_part : (w : List ℕ) (from n j k : ℕ) → from + j ≡ k → j < n →
    slice_index (take n (drop from w)) j ≡ slice_index w k
at_part w from n j k sum below = get_or-take n (drop from w) j 0 below ∙ get_or-drop from w j 0
    ∙ ap (slice_index w) sum

-- where a byte is not the only one that the first item may take, the items have no place
pub not_there : (items : List Item) (b : ℕ) (w : List ℕ) (from n j k : ℕ) → 1 ≤ length items →
    ((x : ℕ) → TakesFirst items x → x ≡ b) → from + j ≡ k → j < n →
    ¬ Passes (is_byte b) (take n (drop from w)) j → ¬ IsPlace items w k
not_there items b w from n j k some only sum below other here = other (passes
    (slice_index (take n (drop from w)) j) (at_part w from n j k sum below
    ∙ only (slice_index w k) (first_taken items w k some here)))
  where
    passes : (x : ℕ) → x ≡ b → is_byte b x ≡ true
    passes x same = grind (arith, nat_tests)

-- a part of the window has the length that its ends say
pub part_length : (w : List ℕ) (from end : ℕ) → from ≤ end → end ≤ length w →
    length (take (end - from) (drop from w)) ≡ end - from
part_length w from end low high = length-take-le (end - from) (drop from w)
    (omega (arith, length-drop from w))

-- the places before the first one that has the byte
pub skipped_first : (items : List Item) (b : ℕ) (w part : List ℕ) (place end skipped : ℕ) →
    1 ≤ length items → place ≤ end → end ≤ length w → part ≡ slice_range w place end →
    ((x : ℕ) → TakesFirst items x → x ≡ b) →
    NoneBefore (Passes (is_byte b) part) 0 (length part) skipped → (place + skipped ≤ end)
    × ((k : ℕ) → place ≤ k → k < place + skipped → ¬ IsPlace items w k)
skipped_first items b w part place end skipped some ordered within is only found =
    let size : length part ≡ end - place = ap length is ∙ part_length w place end ordered within in (
      omega (arith, found.high),
      λ k low below. not_there items b w place (end - place) (k - place) k some only (omega arith)
          (omega (arith, found.high))
          (subst (λ (x : List ℕ). ¬ Passes (is_byte b) x (k - place)) is
          (found.before (k - place) (omega arith) (omega arith))),
    )

-- the places after the last one that has the byte
pub skipped_last : (items : List Item) (b : ℕ) (w part : List ℕ) (from end last : ℕ) →
    1 ≤ length items → from ≤ end → end ≤ length w → part ≡ slice_range w from end →
    ((x : ℕ) → TakesFirst items x → x ≡ b) →
    NoneAfter (Passes (is_byte b) part) 0 (length part) last → (from + last < end)
    × ((k : ℕ) → from + last < k → k < end → ¬ IsPlace items w k)
skipped_last items b w part from end last some ordered within is only found =
    let size : length part ≡ end - from = ap length is ∙ part_length w from end ordered within in (
      omega (arith, found.high),
      λ k low below. not_there items b w from (end - from) (k - from) k some only (omega arith)
          (omega arith)
          (subst (λ (x : List ℕ). ¬ Passes (is_byte b) x (k - from)) is
          (found.after (k - from) (omega arith) (omega arith))),
    )

-- no place has the byte
pub skipped_all : (items : List Item) (b : ℕ) (w part : List ℕ) (from end : ℕ) →
    1 ≤ length items → from ≤ end → end ≤ length w → part ≡ slice_range w from end →
    ((x : ℕ) → TakesFirst items x → x ≡ b) →
    Nowhere (Passes (is_byte b) part) 0 (length part) →
    (k : ℕ) → from ≤ k → k < end → ¬ IsPlace items w k
skipped_all items b w part from end some ordered within is only none k low below =
    let size : length part ≡ end - from = ap length is ∙ part_length w from end ordered within in
    not_there items b w from (end - from) (k - from) k some only (omega arith)
    (omega arith)
    (subst (λ (x : List ℕ). ¬ Passes (is_byte b) x (k - from)) is
    (none (k - from) (omega arith) (omega arith)))

-- none from one place up to a second, and none from there up to a third: none from the first up to
-- the third
pub none_joined : (P : ℕ → Type 0) (from place end : ℕ) →
    ((k : ℕ) → from ≤ k → k < place → ¬ P k) → ((k : ℕ) → place ≤ k → k < end → ¬ P k) →
    (k : ℕ) → from ≤ k → k < end → ¬ P k
none_joined P from place end before behind k low below =
    ⊎_elim (λ (earlier : k < place). before k low earlier)
    (λ (later : place ≤ k). behind k later below)
    (cases_lt k place)

-- no place at one, and none after it
pub none_from : (P : ℕ → Type 0) (p : ℕ) → ¬ P p → ((k : ℕ) → p < k → ¬ P k) →
    (k : ℕ) → p ≤ k → ¬ P k
none_from P p here behind k low =
    ⊎_elim (λ (later : p < k). behind k later)
    (λ (earlier : k ≤ p). λ at. here (subst P (let same : k ≡ p = omega arith in same) at))
    (cases_lt p k)

-- none from one place up to another, and none from there on: none from the first on
pub none_behind : (P : ℕ → Type 0) (place end : ℕ) → ((k : ℕ) → place ≤ k → k < end → ¬ P k) →
    ((k : ℕ) → end ≤ k → ¬ P k) → (k : ℕ) → place ≤ k → ¬ P k
none_behind P place end before behind k low =
    ⊎_elim (λ (earlier : k < end). before k low earlier) (λ (later : end ≤ k). behind k later)
    (cases_lt k end)

-- none at this one place
pub none_at : (P : ℕ → Type 0) (p : ℕ) → ¬ P p → (k : ℕ) → p ≤ k → k < p + 1 → ¬ P k
none_at P p here k low below at =
    here (subst P (let same : k ≡ p = omega arith in same) at)

-- no items fit everywhere
pub no_items_first : (items : List Item) (w : List ℕ) (from : ℕ) → length items ≡ 0 →
    from ≤ length w → IsFirstPlace items w from from
no_items_first [] w from none inside = nothing_first w from inside
no_items_first (item ∷ items) w from none inside = absurd (omega arith)

pub no_items_last : (items : List Item) (w : List ℕ) (from : ℕ) → length items ≡ 0 →
    from ≤ length w → IsLastPlace items w from (length w)
no_items_last [] w from none inside = nothing_last w from inside
no_items_last (item ∷ items) w from none inside = absurd (omega arith)

-- the steps of the places so far, of those that are skipped, and of one that is tested
pub steps_of_turn : (s0 s1 s2 s3 l d skipped n : ℕ) → 1 ≤ l → s1 ≤ s0 + l * d → s2 ≤ s1 + skipped →
    s3 ≤ s2 + l → n ≡ d + skipped + 1 → s3 ≤ s0 + l * n
steps_of_turn s0 s1 s2 s3 l d skipped n positive one two three sum =
    let whole : l * n ≡ l * d + l * skipped + l = ap (λ (m : ℕ). l * m) sum ∙ omega arith in
    let more : skipped * 1 ≤ skipped * l = mul-le-mul_left skipped positive in
    omega arith

pub steps_of_skip : (s0 s1 s2 l d skipped n : ℕ) → 1 ≤ l → s1 ≤ s0 + l * d → s2 ≤ s1 + skipped → n
    ≡ d + skipped → s2 ≤ s0 + l * n
steps_of_skip s0 s1 s2 l d skipped n positive one two sum =
    let whole : l * n ≡ l * d + l * skipped = ap (λ (m : ℕ). l * m) sum ∙ omega arith in
    let more : skipped * 1 ≤ skipped * l = mul-le-mul_left skipped positive in
    omega arith

pub steps_within : (s0 s l m n : ℕ) → s ≤ s0 + l * m → m ≤ n → s ≤ s0 + l * n
steps_within s0 s l m n one le = let more : l * m ≤ l * n = mul-le-mul_left l le in omega arith

-- no token takes a run of bytes
pub IsFixed-items : {A : Type 0} (tokens : List (Token A)) → IsFixed (items_of tokens)
IsFixed-items [] = tt
IsFixed-items (Literal c ∷ tokens) = IsFixed-items tokens
IsFixed-items (AnyByte ∷ tokens) = IsFixed-items tokens
IsFixed-items (Set table ∷ tokens) = IsFixed-items tokens
