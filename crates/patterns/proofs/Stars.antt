-- Runs after a `*`: the first place of a run serves each later one, and the last run ends last at
-- its last place.
use Rattle.std.proofs.Common.{◌≡◌, ℕ, ◌+◌, ◌-◌, ◌<◌, ◌≤◌, List, [], ◌∷◌, ◌++◌, length, drop, refl, sym, ◌∙◌, ap, subst, ⊎_elim, arith}
use Rattle.std.proofs.lemmas.List.{append-nil, length-drop, drop-drop}
use Rattle.std.proofs.lemmas.Bool.{cases_lt}
use Rattle.patterns.specs.Item.{Item, any_run}
use Rattle.patterns.specs.Runs.{IsFixed, Leaves, IsPlace, IsFirstPlace}
use Rattle.patterns.proofs.Spans.{Fits-length, Leaves-behind_run, Leaves-join_run, drop_once}

-- the place n bytes after the place `from`
pub drop_behind : (w : List ℕ) (from n k : ℕ) → from + n ≡ k → drop n (drop from w) ≡ drop k w
drop_behind w from n k sum = drop-drop n from w ∙ ap (λ (m : ℕ). drop m w) sum

-- a `*` and a run after it: the run has a place, and the items after it leave u from there
pub Leaves-star_run : (run items : List Item) (w u : List ℕ) (from : ℕ) → from ≤ length w →
    IsFixed run → Leaves (any_run ∷ (run ++ items)) (drop from w) u →
    (k : ℕ) × (from ≤ k) × IsPlace run w k × Leaves items (drop (k + length run) w) u
Leaves-star_run run items w u from inside fixed (n, within, leaves) =
    let here : drop n (drop from w) ≡ drop (from + n) w = drop_behind w from n (from + n) refl in
    let moved = subst (λ (x : List ℕ). Leaves (run ++ items) x u) here leaves in
    let parts = Leaves-behind_run run items (drop (from + n) w) u fixed moved in
    let room : from + n + length run ≤ length w =
    omega (
      arith,
      Fits-length run (drop (from + n) w) parts.0,
      length-drop (from + n) w,
      length-drop from w,
      within,
    ) in (
      from + n,
      omega arith,
      record { room = room; fits = parts.0 },
      subst (λ (x : List ℕ). Leaves items x u)
          (drop_behind w (from + n) (length run) (from + n + length run) refl) parts.1,
    )

-- the converse: a run at its place, and the items after it, may follow a `*`
pub Leaves-join_star : (run items : List Item) (w u : List ℕ) (from k : ℕ) → from ≤ k → IsFixed run
    → IsPlace run w k → Leaves items (drop (k + length run) w) u →
    Leaves (any_run ∷ (run ++ items)) (drop from w) u
Leaves-join_star run items w u from k low fixed place leaves =
    let here : drop (k - from) (drop from w) ≡ drop k w =
    drop_behind w from (k - from) k (omega arith) in
    let behind : drop (length run) (drop k w) ≡ drop (k + length run) w =
    drop_behind w k (length run) (k + length run) refl in
    let joined = Leaves-join_run run items (drop k w) u fixed place.fits
    (subst (λ (x : List ℕ). Leaves items x u) (sym behind) leaves) in (
      k - from,
      omega (arith, place.room, length-drop from w),
      subst (λ (x : List ℕ). Leaves (run ++ items) x u) (sym here) joined,
    )

-- a `*` takes what lies between two places
pub Leaves-earlier : (items : List Item) (w u : List ℕ) (from k : ℕ) → from ≤ k → k ≤ length w →
    Leaves (any_run ∷ items) (drop k w) u → Leaves (any_run ∷ items) (drop from w) u
Leaves-earlier items w u from k low inside (n, within, leaves) =
    let same : drop n (drop k w) ≡ drop (k - from + n) (drop from w) =
    drop_behind w k n (k + n) refl
    ∙ sym (drop_behind w from (k - from + n) (k + n) (omega arith)) in (
      k - from + n,
      omega (arith, within, length-drop k w, length-drop from w),
      subst (λ (x : List ℕ). Leaves items x u) same leaves,
    )

-- the first place of a run after a `*` serves whatever comes after the next `*`
pub first_serves : (run more : List Item) (w u : List ℕ) (from q : ℕ) → IsFixed run →
    IsFirstPlace run w from q →
    Leaves (any_run ∷ (run ++ any_run ∷ more)) (drop from w) u →
    Leaves (any_run ∷ more) (drop (q + length run) w) u
first_serves run more w u from q fixed first leaves =
    let inside : from ≤ length w = omega (arith, first.low, first.here.room) in
    let parts = Leaves-star_run run (any_run ∷ more) w u from inside fixed leaves in
    let k : ℕ = parts.0 in
    let low : q ≤ k = ⊎_elim (λ (lt : k < q). absurd (first.before k parts.1 lt parts.2))
    (λ (le : q ≤ k). le) (cases_lt k q) in
    Leaves-earlier more w u (q + length run) (k + length run) (omega arith) parts.2.room parts.3

pub first_joins : (run more : List Item) (w u : List ℕ) (from q : ℕ) → IsFixed run →
    IsFirstPlace run w from q →
    Leaves (any_run ∷ more) (drop (q + length run) w) u →
    Leaves (any_run ∷ (run ++ any_run ∷ more)) (drop from w) u
first_joins run more w u from q fixed first leaves =
    Leaves-join_star run (any_run ∷ more) w u from q first.low fixed first.here leaves

-- a `*` and a last run: the run has a place, and ends at e
pub last_place_of : (run : List Item) (w : List ℕ) (from e : ℕ) → from ≤ length w → e ≤ length w →
    IsFixed run → Leaves (any_run ∷ run) (drop from w) (drop e w) →
    (k : ℕ) × (from ≤ k) × IsPlace run w k × (k + length run ≡ e)
last_place_of run w from e inside within fixed leaves =
    let longer = subst (λ (x : List Item). Leaves (any_run ∷ x) (drop from w) (drop e w))
    (sym (append-nil run)) leaves in
    let parts = Leaves-star_run run [] w (drop e w) from inside fixed longer in
    (parts.0, parts.1, parts.2, drop_once w (parts.0 + length run) e parts.2.room within parts.3)

pub last_joins : (run : List Item) (w : List ℕ) (from k : ℕ) → from ≤ k → IsFixed run →
    IsPlace run w k → Leaves (any_run ∷ run) (drop from w) (drop (k + length run) w)
last_joins run w from k low fixed place =
    subst (λ (x : List Item). Leaves (any_run ∷ x) (drop from w) (drop (k + length run) w))
    (append-nil run)
    (Leaves-join_star run [] w (drop (k + length run) w) from k low fixed place refl)
