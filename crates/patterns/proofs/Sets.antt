-- The bytes of a set, and those that a table marks.
use Rattle.std.proofs.Common.{◌≡◌, ℕ, zero, suc, ◌+◌, ◌<◌, Bool, true, false, cond, List, [], ◌∷◌, refl, sym, ◌∙◌, ap, ⊎_elim, inl, inr, ◌⊎◌, arith, Contains, IsTrue, filter, slice_index_or}
use Rattle.std.specs.List.{range_with_len}
use Rattle.std.proofs.lemmas.List.FromFn.{length-range_with_len, get_or-range_with_len}
use Rattle.patterns.specs.Glob.{all_bytes}
use Rattle.patterns.specs.Runs.{marked}

Contains-cons : (x y : ℕ) (ys : List ℕ) → Contains (y ∷ ys) x → (y ≡ x) ⊎ Contains ys x
Contains-cons x y ys (zero, within, is) = inl is
Contains-cons x y ys (suc k, within, is) = inr (k, omega arith, is)

Contains-tail : (x y : ℕ) (ys : List ℕ) → Contains ys x → Contains (y ∷ ys) x
Contains-tail x y ys (k, within, is) = (suc k, omega arith, is)

-- what a filter keeps is in the list and passes the test
Contains-filter_step : (p : ℕ → Bool) (x y : ℕ) (ys : List ℕ) →
    (Contains (filter p ys) x → Contains ys x × (p x ≡ true)) →
    (b : Bool) → p y ≡ b → Contains (cond b (y ∷ filter p ys) (filter p ys)) x → Contains (y ∷ ys) x
    × (p x ≡ true)
Contains-filter_step p x y ys more true passes within =
    ⊎_elim
    (λ (is : y ≡ x). ((0, omega arith, is), ap p (sym is) ∙ passes))
    (λ (later : Contains (filter p ys) x). let found = more later in
    (Contains-tail x y ys found.0, found.1))
    (Contains-cons x y (filter p ys) within)
Contains-filter_step p x y ys more false passes within =
    let found = more within in (Contains-tail x y ys found.0, found.1)

pub Contains-filter : (p : ℕ → Bool) (x : ℕ) (xs : List ℕ) → Contains (filter p xs) x →
    Contains xs x × (p x ≡ true)
Contains-filter p x [] (k, within, is) = absurd (omega arith)
Contains-filter p x (y ∷ ys) within =
    Contains-filter_step p x y ys (Contains-filter p x ys) (p y) refl within

-- an element that passes the test is kept
kept_step : (p : ℕ → Bool) (x y : ℕ) (ys : List ℕ) → p x ≡ true →
    (Contains ys x → Contains (filter p ys) x) →
    (b : Bool) → p y ≡ b → (y ≡ x) ⊎ Contains ys x →
    Contains (cond b (y ∷ filter p ys) (filter p ys)) x
kept_step p x y ys holds more true passes (inl is) = (0, omega arith, is)
kept_step p x y ys holds more true passes (inr later) = Contains-tail x y (filter p ys) (more later)
kept_step p x y ys holds more false passes (inl is) =
    absurd (let clash : true ≡ false = sym holds ∙ ap p (sym is) ∙ passes in (cc))
kept_step p x y ys holds more false passes (inr later) = more later

pub filter_contains : (p : ℕ → Bool) (x : ℕ) (xs : List ℕ) → p x ≡ true → Contains xs x →
    Contains (filter p xs) x
filter_contains p x [] holds (k, within, is) = absurd (omega arith)
filter_contains p x (y ∷ ys) holds within =
    kept_step p x y ys holds (filter_contains p x ys holds) (p y) refl (Contains-cons x y ys within)

-- each byte is in the list of them
bytes_contain : (n b : ℕ) → b < n → Contains (range_with_len 0 n) b
bytes_contain n b below = (
  b,
  omega (arith, length-range_with_len 0 n),
  get_or-range_with_len 0 n b b below ∙ omega arith,
)

pub all_bytes-contains : (b : ℕ) → b < 256 → Contains all_bytes b
unfolding all_bytes
all_bytes-contains b below = bytes_contain 256 b below

-- tests that agree below a number keep the same of the numbers below it
filter-same : (p q : ℕ → Bool) (a n : ℕ) → ((b : ℕ) → b < a + n → p b ≡ q b) →
    filter p (range_with_len a n) ≡ filter q (range_with_len a n)
filter-same p q a zero same = refl
filter-same p q a (suc n) same =
    let here : p a ≡ q a = same a (omega arith) in
    let later : filter p (range_with_len (a + 1) n) ≡ filter q (range_with_len (a + 1) n) =
    filter-same p q (a + 1) n (λ b below. same b (omega arith)) in
    ap (λ (t : Bool). cond t (a ∷ filter p (range_with_len (a + 1) n))
    (filter p (range_with_len (a + 1) n))) here
    ∙ ap (λ (xs : List ℕ). cond (q a) (a ∷ xs) xs) later

pub all_bytes-filter : (p q : ℕ → Bool) → ((b : ℕ) → b < 256 → p b ≡ q b) → filter p all_bytes
    ≡ filter q all_bytes
unfolding all_bytes
all_bytes-filter p q same = filter-same p q 0 256 (λ b below. same b (omega arith))

-- a byte is one that the table marks
pub marked_holds : (table : List Bool) (b : ℕ) → b < 256 → IsTrue (slice_index_or table b false) →
    Contains (marked table) b
marked_holds table b below holds = filter_contains (λ (x : ℕ). slice_index_or table x false) b
    all_bytes (search (holds)) (all_bytes-contains b below)

pub holds_marked : (table : List Bool) (b : ℕ) → Contains (marked table) b →
    IsTrue (slice_index_or table b false)
holds_marked table b within =
    search (Contains-filter (λ (x : ℕ). slice_index_or table x false) b all_bytes within)
