-- The bytes of an arrival without its nulls, piece by piece.
use Rattle.std.proofs.Common.{◌≡◌, ◌==◌, ℕ, zero, suc, ◌+◌, ◌-◌, ◌<◌, ◌≤◌, Bool, true, false, cond, not, List, [], ◌∷◌, ◌++◌, length, length-drop, take, drop, slice_index, add-one, refl, sym, ap, ◌∙◌, arith, append_assoc}
use Rattle.circular_buffer.specs.Buffer.{keep_last}
use Rattle.matchbuf.specs.Held.{Held, held}
use Rattle.matchbuf.proofs.Windows.{kept_twice}
use Rattle.choices.specs.Lines.{without_nulls}

-- no null stands before that place
abbrev pub NoNull : List ℕ → ℕ → Type 0
NoNull bs k = (i : ℕ) → i < k → ¬ ((slice_index bs i == 0) ≡ true)

-- a byte that is no null is kept
kept : (b : ℕ) (bs : List ℕ) (c : Bool) → (b == 0) ≡ c → ((b == 0) ≡ true → ⊥) →
    without_nulls (b ∷ bs) ≡ b ∷ without_nulls bs
kept b bs true is never = absurd (never is)
kept b bs false is never =
    ap (λ (c : Bool). cond (not c) (b ∷ without_nulls bs) (without_nulls bs)) is

-- a null is dropped
dropped : (b : ℕ) (bs : List ℕ) → (b == 0) ≡ true → without_nulls (b ∷ bs) ≡ without_nulls bs
dropped b bs is = ap (λ (c : Bool). cond (not c) (b ∷ without_nulls bs) (without_nulls bs)) is

split-suc : (bs : List ℕ) (k : ℕ) → k < length bs → NoNull bs k →
    (slice_index bs k == 0) ≡ true → without_nulls bs ≡ take k bs ++ without_nulls (drop (suc k) bs)
split-suc [] k lt never is = absurd (omega arith)
split-suc (b ∷ bs) zero lt never is = dropped b bs is
split-suc (b ∷ bs) (suc k) lt never is =
    kept b bs (b == 0) refl (never 0 (omega arith))
    ∙ ap (λ cs. b ∷ cs) (split-suc bs k (omega arith) (λ i le. never (suc i) (omega arith)) is)

-- the bytes up to the first null, and those after it
pub split_null : (bs : List ℕ) (k : ℕ) → k < length bs → NoNull bs k →
    (slice_index bs k == 0) ≡ true →
    without_nulls bs ≡ take k bs ++ without_nulls (drop (k + 1) bs)
split_null bs k lt never is = split-suc bs k lt never is
    ∙ ap (λ (n : ℕ). take k bs ++ without_nulls (drop n bs)) (sym (add-one k))

-- bytes without a null stay as they are
pub no_null : (bs : List ℕ) → NoNull bs (length bs) → without_nulls bs ≡ bs
no_null [] never = refl
no_null (b ∷ bs) never = kept b bs (b == 0) refl (never 0 (omega arith))
    ∙ ap (λ cs. b ∷ cs) (no_null bs (λ i le. never (suc i) (omega arith)))

-- a piece goes in, and the rest after it
pub piece_in : (m : ℕ) (before piece rest : List ℕ) →
    keep_last m (keep_last m (before ++ piece) ++ rest) ≡ keep_last m (before ++ (piece ++ rest))
piece_in m before piece rest =
    kept_twice m (before ++ piece) rest ∙ ap (keep_last m) (append_assoc before piece rest)

-- the same of a buffer: the bytes held and the bytes still to arrive give what is to be held
pub piece_further : (m size : ℕ) (goal before after rest more : List ℕ) (k : ℕ) → size ≡ m →
    after ≡ keep_last size (before ++ take k rest) → more ≡ drop (k + 1) rest →
    k < length rest → NoNull rest k → (slice_index rest k == 0) ≡ true →
    keep_last m (before ++ without_nulls rest) ≡ goal →
    keep_last m (after ++ without_nulls more) ≡ goal
piece_further m size goal before after rest more k same held is lt never null so_far =
    (λ j. keep_last m (held j ++ without_nulls (is j)))
    ∙ (λ j. keep_last m (keep_last (same j) (before ++ take k rest)
    ++ without_nulls (drop (k + 1) rest)))
    ∙ piece_in m before (take k rest) (without_nulls (drop (k + 1) rest))
    ∙ ap (λ bs. keep_last m (before ++ bs)) (sym (split_null rest k lt never null))
    ∙ so_far

-- the last piece, after which no null stands
pub last_piece : (m size : ℕ) (goal before rest : List ℕ) (after : Held) → size ≡ m →
    after ≡ held (keep_last size (before ++ rest)) size → NoNull rest (length rest) →
    keep_last m (before ++ without_nulls rest) ≡ goal → after ≡ held goal m
last_piece m size goal before rest after same is never so_far =
    is ∙ (λ j. held (keep_last (same j) (before ++ rest)) (same j))
    ∙ ap (λ bs. held (keep_last m (before ++ bs)) m) (sym (no_null rest never))
    ∙ ap (λ bs. held bs m) so_far

-- the bytes still to arrive are no more than there were
pub no_longer : (rest more : List ℕ) (k n : ℕ) → more ≡ drop k rest → length rest ≤ n →
    length more ≤ n
no_longer rest more k n is le =
    let e : length more ≡ length rest - k = ap length is ∙ length-drop k rest in
    omega arith
