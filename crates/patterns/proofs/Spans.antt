-- What a list of items leaves of a text, and where a run in it sits.
use Rattle.std.proofs.Common.{◌≡◌, ℕ, ◌+◌, ◌-◌, ◌≤◌, List, [], ◌∷◌, ◌++◌, length, take, drop, refl, sym, ◌∙◌, ap, subst, arith}
use Rattle.std.proofs.lemmas.List.{append_assoc, length-append, length-drop, take-append-drop, drop-drop, drop_at, take_at}
use Rattle.std.specs.Prelude.{slice_range}
use Rattle.patterns.specs.Item.{Item, literal, any_byte, one_of, any_run}
use Rattle.patterns.specs.Match.{Whole}
use Rattle.patterns.specs.Runs.{Fits, IsFixed, Leaves}

-- a run takes as many bytes as it has items
pub Fits-length : (run : List Item) (t : List ℕ) → Fits run t → length run ≤ length t
Fits-length [] t fits = omega arith
Fits-length (item ∷ run) [] fits = absurd fits
Fits-length (item ∷ run) (b ∷ t) fits = omega (arith, Fits-length run t fits.1)

-- a run in front takes its bytes first
pub Leaves-behind_run : (run items : List Item) (t u : List ℕ) → IsFixed run →
    Leaves (run ++ items) t u → Fits run t × Leaves items (drop (length run) t) u
Leaves-behind_run [] items t u fixed leaves = (tt, leaves)
Leaves-behind_run (literal c ∷ run) items [] u fixed leaves = absurd leaves
Leaves-behind_run (literal c ∷ run) items (b ∷ t) u fixed leaves =
    let more = Leaves-behind_run run items t u fixed leaves.1 in
    ((leaves.0, more.0), more.1)
Leaves-behind_run (any_byte ∷ run) items [] u fixed leaves = absurd leaves
Leaves-behind_run (any_byte ∷ run) items (b ∷ t) u fixed leaves =
    let more = Leaves-behind_run run items t u fixed leaves.1 in
    ((leaves.0, more.0), more.1)
Leaves-behind_run (one_of bytes ∷ run) items [] u fixed leaves = absurd leaves
Leaves-behind_run (one_of bytes ∷ run) items (b ∷ t) u fixed leaves =
    let more = Leaves-behind_run run items t u fixed leaves.1 in
    ((leaves.0, more.0), more.1)
Leaves-behind_run (any_run ∷ run) items t u fixed leaves = absurd fixed

-- a run that takes its bytes, and what takes the rest
pub Leaves-join_run : (run items : List Item) (t u : List ℕ) → IsFixed run → Fits run t →
    Leaves items (drop (length run) t) u → Leaves (run ++ items) t u
Leaves-join_run [] items t u fixed fits leaves = leaves
Leaves-join_run (literal c ∷ run) items [] u fixed fits leaves = absurd fits
Leaves-join_run (literal c ∷ run) items (b ∷ t) u fixed fits leaves =
    (fits.0, Leaves-join_run run items t u fixed fits.1 leaves)
Leaves-join_run (any_byte ∷ run) items [] u fixed fits leaves = absurd fits
Leaves-join_run (any_byte ∷ run) items (b ∷ t) u fixed fits leaves =
    (fits.0, Leaves-join_run run items t u fixed fits.1 leaves)
Leaves-join_run (one_of bytes ∷ run) items [] u fixed fits leaves = absurd fits
Leaves-join_run (one_of bytes ∷ run) items (b ∷ t) u fixed fits leaves =
    (fits.0, Leaves-join_run run items t u fixed fits.1 leaves)
Leaves-join_run (any_run ∷ run) items t u fixed fits leaves = absurd fixed

-- a text that the items take whole stands before what they leave
pub Leaves-from_whole : (items : List Item) (t u : List ℕ) → Whole items t → Leaves items (t ++ u) u
Leaves-from_whole [] t u whole = ap (λ (x : List ℕ). x ++ u) whole
Leaves-from_whole (any_run ∷ items) t u (piece, rest, joined, taken, whole) =
    let split : t ++ u ≡ piece ++ (rest ++ u) = ap (λ (x : List ℕ). x ++ u) joined
    ∙ append_assoc piece rest u in
    let behind : drop (length piece) (t ++ u) ≡ rest ++ u =
    ap (drop (length piece)) split ∙ drop_at piece (rest ++ u) (length piece) refl in (
      length piece,
      omega (arith, ap length split, length-append piece (rest ++ u)),
      subst (λ (x : List ℕ). Leaves items x u) (sym behind) (Leaves-from_whole items rest u whole),
    )
Leaves-from_whole (literal c ∷ items) t u (piece, rest, joined, taken, whole) =
    let split : c ∷ (rest ++ u) ≡ t ++ u =
    sym (ap (λ (x : List ℕ). x ++ u) (joined ∙ ap (λ (x : List ℕ). x ++ rest) taken)) in
    subst (λ (x : List ℕ). Leaves (literal c ∷ items) x u) split (
      refl,
      Leaves-from_whole items rest u whole,
    )
Leaves-from_whole (any_byte ∷ items) t u (piece, rest, joined, taken, whole) =
    let split : taken.0 ∷ (rest ++ u) ≡ t ++ u =
    sym (ap (λ (x : List ℕ). x ++ u) (joined ∙ ap (λ (x : List ℕ). x ++ rest) taken.1)) in
    subst (λ (x : List ℕ). Leaves (any_byte ∷ items) x u) split (
      tt,
      Leaves-from_whole items rest u whole,
    )
Leaves-from_whole (one_of bytes ∷ items) t u (piece, rest, joined, taken, whole) =
    let split : taken.0 ∷ (rest ++ u) ≡ t ++ u =
    sym (ap (λ (x : List ℕ). x ++ u) (joined ∙ ap (λ (x : List ℕ). x ++ rest) taken.1)) in
    subst (λ (x : List ℕ). Leaves (one_of bytes ∷ items) x u) split (
      taken.2,
      Leaves-from_whole items rest u whole,
    )

-- what the items take of a text, they take whole
pub Leaves-whole : (items : List Item) (t u : List ℕ) → Leaves items t u → (front : List ℕ)
    × (t ≡ front ++ u) × Whole items front
Leaves-whole [] t u leaves = ([], leaves, refl)
Leaves-whole (any_run ∷ items) t u (n, within, leaves) =
    let more = Leaves-whole items (drop n t) u leaves in (
      take n t ++ more.0,
      sym (take-append-drop n t) ∙ ap (λ (x : List ℕ). take n t ++ x) more.1
          ∙ sym (append_assoc (take n t) more.0 u),
      (take n t, more.0, refl, tt, more.2),
    )
Leaves-whole (literal c ∷ items) [] u leaves = absurd leaves
Leaves-whole (literal c ∷ items) (b ∷ t) u leaves =
    let more = Leaves-whole items t u leaves.1 in (
      b ∷ more.0,
      ap (λ (x : List ℕ). b ∷ x) more.1,
      (b ∷ [], more.0, refl, ap (λ (x : ℕ). x ∷ []) leaves.0, more.2),
    )
Leaves-whole (any_byte ∷ items) [] u leaves = absurd leaves
Leaves-whole (any_byte ∷ items) (b ∷ t) u leaves =
    let more = Leaves-whole items t u leaves.1 in
    (b ∷ more.0, ap (λ (x : List ℕ). b ∷ x) more.1, (b ∷ [], more.0, refl, (b, refl), more.2))
Leaves-whole (one_of bytes ∷ items) [] u leaves = absurd leaves
Leaves-whole (one_of bytes ∷ items) (b ∷ t) u leaves =
    let more = Leaves-whole items t u leaves.1 in (
      b ∷ more.0,
      ap (λ (x : List ℕ). b ∷ x) more.1,
      (b ∷ [], more.0, refl, (b, refl, leaves.0), more.2),
    )

-- the bytes from s up to e stand before those from e on
pub slice_range-joined : (w : List ℕ) (s e : ℕ) → s ≤ e → slice_range w s e ++ drop e w ≡ drop s w
slice_range-joined w s e ordered =
    let ends : s + (e - s) ≡ e = omega arith in
    let rest : drop (e - s) (drop s w) ≡ drop e w = drop-drop (e - s) s w
    ∙ ap (λ (n : ℕ). drop n w) ends in
    ap (λ (x : List ℕ). take (e - s) (drop s w) ++ x) (sym rest)
    ∙ take-append-drop (e - s) (drop s w)

-- in a window, what is taken from s up to e leaves the bytes from e on
pub Leaves-from_range : (items : List Item) (w : List ℕ) (s e : ℕ) → s ≤ e →
    Whole items (slice_range w s e) → Leaves items (drop s w) (drop e w)
Leaves-from_range items w s e ordered whole =
    subst (λ (x : List ℕ). Leaves items x (drop e w)) (slice_range-joined w s e ordered)
    (Leaves-from_whole items (slice_range w s e) (drop e w) whole)

pub Leaves-range : (items : List Item) (w : List ℕ) (s e : ℕ) → s ≤ length w → e ≤ length w →
    Leaves items (drop s w) (drop e w) → (s ≤ e) × Whole items (slice_range w s e)
Leaves-range items w s e in_s in_e leaves =
    let parts = Leaves-whole items (drop s w) (drop e w) leaves in
    let sizes : length w - s ≡ length parts.0 + (length w - e) =
    omega (
      arith,
      ap length parts.1,
      length-append parts.0 (drop e w),
      length-drop s w,
      length-drop e w,
    ) in
    let size : length parts.0 ≡ e - s = omega arith in
    let front : slice_range w s e ≡ parts.0 = ap (take (e - s)) parts.1
    ∙ take_at parts.0 (drop e w) (e - s) size in
    (omega arith, subst (λ (x : List ℕ). Whole items x) (sym front) parts.2)

-- where the same bytes are left after two places, the places are the same
pub drop_once : (w : List ℕ) (a b : ℕ) → a ≤ length w → b ≤ length w → drop a w ≡ drop b w → a ≡ b
drop_once w a b in_a in_b same = omega (arith, ap length same, length-drop a w, length-drop b w)
