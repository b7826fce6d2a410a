-- The content of a word in braces has one value.
use Rattle.std.proofs.Common.{◌≡◌, ℕ, ◌-◌, ◌<◌, ◌≤◌, ◌==◌, List, [], ◌∷◌, ◌++◌, length, get_or, take, drop, false, inl, inr, refl, sym, ap, subst, ◌∙◌, append_assoc, append-nil, arith}
use Rattle.std.proofs.lemmas.Bool.Decides.{eqb_tells}
use Rattle.tcltext.specs.Escape.{skip_blanks}
use Rattle.tcltext.proofs.Pairing.{range_rest}
use Rattle.tclparse.specs.Braces.{IsValue, nothing, a_byte, a_last_backslash, a_pair, a_continued_line}
use Rattle.tclparse.proofs.Lengths.{by_length}
use Rattle.tclparse.proofs.Pieces.{joins_length}
use Rattle.tclparse.proofs.Spelled.{blanks_joins}

abbrev HasValue : List ℕ → Type 0
HasValue x = (v : List ℕ) × IsValue v x

pair_value : (c : ℕ) (x : List ℕ) → ((z : List ℕ) → length z < length (92 ∷ c ∷ x) → HasValue z) →
    HasValue (92 ∷ c ∷ x)
pair_value c x shorter = elim (eqb_tells c 10) [
  | inl p ↦ subst (λ d. HasValue (92 ∷ d ∷ x)) (sym p.1) (
      let rest = shorter (skip_blanks x)
      (omega (arith, joins_length x (skip_blanks x) (blanks_joins x))) in
      (32 ∷ rest.0, a_continued_line rest.0 x rest.1))
  | inr p ↦
      let rest = shorter x (omega arith) in
      (92 ∷ c ∷ rest.0, a_pair c rest.0 x p.0 rest.1)
]

backslash_value : (x : List ℕ) → ((z : List ℕ) → length z < length (92 ∷ x) → HasValue z) →
    HasValue (92 ∷ x)
backslash_value [] shorter = (92 ∷ [], a_last_backslash)
backslash_value (c ∷ x) shorter = pair_value c x shorter

value_step : (x : List ℕ) → ((z : List ℕ) → length z < length x → HasValue z) → HasValue x
value_step [] shorter = ([], nothing)
value_step (c ∷ x) shorter = elim (eqb_tells c 92) [
  | inl p ↦ subst (λ d. HasValue (d ∷ x)) (sym p.1) (backslash_value x shorter)
  | inr p ↦
      let rest = shorter x (omega arith) in
      (c ∷ rest.0, a_byte c rest.0 x p.0 rest.1)
]

pub each_value : (x : List ℕ) → HasValue x
each_value = by_length HasValue value_step

-- One text has one value.
pub one_value : (v x w y : List ℕ) → IsValue v x → IsValue w y → x ≡ y → v ≡ w
one_value _ _ _ _ nothing nothing e = refl
one_value _ _ _ _ nothing (a_byte d w y q k) e = absurd (cc)
one_value _ _ _ _ nothing a_last_backslash e = absurd (cc)
one_value _ _ _ _ nothing (a_pair d w y q k) e = absurd (cc)
one_value _ _ _ _ nothing (a_continued_line w y k) e = absurd (cc)
one_value _ _ _ _ (a_byte c v x p h) nothing e = absurd (cc)
one_value _ _ _ _ (a_byte c v x p h) (a_byte d w y q k) e =
    let same : (c ≡ d) × (x ≡ y) = (cc, cc) in
    cc (same.0, one_value v x w y h k same.1)
one_value _ _ _ _ (a_byte c v x p h) a_last_backslash e = absurd (cc)
one_value _ _ _ _ (a_byte c v x p h) (a_pair d w y q k) e = absurd (cc)
one_value _ _ _ _ (a_byte c v x p h) (a_continued_line w y k) e = absurd (cc)
one_value _ _ _ _ a_last_backslash nothing e = absurd (cc)
one_value _ _ _ _ a_last_backslash (a_byte d w y q k) e = absurd (cc)
one_value _ _ _ _ a_last_backslash a_last_backslash e = refl
one_value _ _ _ _ a_last_backslash (a_pair d w y q k) e = absurd (cc)
one_value _ _ _ _ a_last_backslash (a_continued_line w y k) e = absurd (cc)
one_value _ _ _ _ (a_pair c v x p h) nothing e = absurd (cc)
one_value _ _ _ _ (a_pair c v x p h) (a_byte d w y q k) e = absurd (cc)
one_value _ _ _ _ (a_pair c v x p h) a_last_backslash e = absurd (cc)
one_value _ _ _ _ (a_pair c v x p h) (a_pair d w y q k) e =
    let same : (c ≡ d) × (x ≡ y) = (cc, cc) in
    cc (same.0, one_value v x w y h k same.1)
one_value _ _ _ _ (a_pair c v x p h) (a_continued_line w y k) e = absurd (cc)
one_value _ _ _ _ (a_continued_line v x h) nothing e = absurd (cc)
one_value _ _ _ _ (a_continued_line v x h) (a_byte d w y q k) e = absurd (cc)
one_value _ _ _ _ (a_continued_line v x h) a_last_backslash e = absurd (cc)
one_value _ _ _ _ (a_continued_line v x h) (a_pair d w y q k) e = absurd (cc)
one_value _ _ _ _ (a_continued_line v x h) (a_continued_line w y k) e =
    let same : x ≡ y = cc in
    ap (λ u. 32 ∷ u) (one_value v (skip_blanks x) w (skip_blanks y) h k (ap skip_blanks same))

-- What was read of the content x, where y is still unread: whatever value y has, front followed by
-- that value is the value of x.
abbrev pub ValueSoFar : List ℕ → List ℕ → List ℕ → Type 0
ValueSoFar front y x = (v : List ℕ) → IsValue v y → IsValue (front ++ v) x

-- the same with more of the value, which the next bytes of the content give
pub after_piece : (front y x piece z more : List ℕ) → ValueSoFar front y x → more ≡ front ++ piece →
    ((v : List ℕ) → IsValue v z → IsValue (piece ++ v) y) → ValueSoFar more z x
after_piece front y x piece z more so_far is step v h =
    subst (λ w. IsValue w x) (sym (ap (λ w. w ++ v) is ∙ append_assoc front piece v))
    (so_far (piece ++ v) (step v h))

pub over : (front y x : List ℕ) → length y < 1 → ValueSoFar front y x → IsValue front x
over front [] x h so_far = subst (λ w. IsValue w x) (append-nil front) (so_far [] nothing)
over front (c ∷ y) x h so_far = absurd (omega arith)

pub pushed_twice : (front more most : List ℕ) (c d : ℕ) → more ≡ front ++ c ∷ [] → most ≡ more ++ d
    ∷ [] → most ≡ front ++ c ∷ d ∷ []
pushed_twice front more most c d e f = f ∙ ap (λ l. l ++ d ∷ []) e
    ∙ append_assoc front (c ∷ []) (d ∷ [])

-- the text after the first byte, as a slice
abbrev pub behind : List ℕ → List ℕ
behind x = take (length x - 1) (drop 1 x)

behind_is : (c : ℕ) (x : List ℕ) → behind (c ∷ x) ≡ x
behind_is c x = range_rest (c ∷ x) 1

differs : (a b : ℕ) → (a ≡ b → ⊥) → (a == b) ≡ false
differs a b h = elim (eqb_tells a b) [
  | inl p ↦ absurd (h p.1)
  | inr p ↦ p.0
]

pub byte_step : (y v : List ℕ) → 1 ≤ length y → (get_or y 0 0 ≡ 92 → ⊥) → IsValue v (behind y) →
    IsValue (get_or y 0 0 ∷ v) y
byte_step [] v h k i = absurd (omega arith)
byte_step (c ∷ x) v h k i = a_byte c v x (differs c 92 k) (subst (IsValue v) (behind_is c x) i)

-- the last byte gives itself, even if it is a backslash
last_byte : (c : ℕ) (v : List ℕ) → IsValue v [] → IsValue (c ∷ v) (c ∷ [])
last_byte c v h =
    let none : [] ≡ v = one_value [] [] v [] nothing h refl in
    subst (λ w. IsValue (c ∷ w) (c ∷ [])) none (elim (eqb_tells c 92) [
      | inl p ↦ subst (λ d. IsValue (d ∷ []) (d ∷ [])) (sym p.1) a_last_backslash
      | inr p ↦ a_byte c [] [] p.0 nothing
    ])

pub last_step : (y v : List ℕ) → 1 ≤ length y → length (behind y) < 1 → IsValue v (behind y) →
    IsValue (get_or y 0 0 ∷ v) y
last_step [] v h k i = absurd (omega arith)
last_step (c ∷ []) v h k i = last_byte c v i
last_step (c ∷ d ∷ x) v h k i = let more = ap length (behind_is c (d ∷ x)) in absurd (omega arith)

pair_at : (c : ℕ) (x z v : List ℕ) → z ≡ x → 1 ≤ length z → c ≡ 92 → (get_or z 0 0 ≡ 10 → ⊥) →
    IsValue v (behind z) → IsValue (c ∷ get_or z 0 0 ∷ v) (c ∷ x)
pair_at c x [] v e h p k i = absurd (omega arith)
pair_at c x (d ∷ z) v e h p k i =
    subst (λ w. IsValue (c ∷ d ∷ v) (c ∷ w)) e
    (subst (λ b. IsValue (b ∷ d ∷ v) (b ∷ d ∷ z)) (sym p)
    (a_pair d v z (differs d 10 k) (subst (IsValue v) (behind_is d z) i)))

pub pair_step : (y v : List ℕ) → 1 ≤ length y → 1 ≤ length (behind y) → get_or y 0 0 ≡ 92 →
    (get_or (behind y) 0 0 ≡ 10 → ⊥) → IsValue v (behind (behind y))
    → IsValue (get_or y 0 0 ∷ get_or (behind y) 0 0 ∷ v) y
pair_step [] v h k p n i = absurd (omega arith)
pair_step (c ∷ x) v h k p n i = pair_at c x (behind (c ∷ x)) v (behind_is c x) k p n i

line_at : (c : ℕ) (x z v : List ℕ) → z ≡ x → 1 ≤ length z → c ≡ 92 → get_or z 0 0 ≡ 10 →
    IsValue v (skip_blanks (behind z)) → IsValue (32 ∷ v) (c ∷ x)
line_at c x [] v e h p q i = absurd (omega arith)
line_at c x (d ∷ z) v e h p q i =
    let line = a_continued_line v z (subst (λ w. IsValue v (skip_blanks w)) (behind_is d z) i) in
    subst (λ w. IsValue (32 ∷ v) (c ∷ w)) e (subst (λ b. IsValue (32 ∷ v) (b ∷ d ∷ z)) (sym p)
    (subst (λ b. IsValue (32 ∷ v) (92 ∷ b ∷ z)) (sym q) line))

pub line_step : (y z v : List ℕ) → 1 ≤ length y → 1 ≤ length (behind y) → get_or y 0 0 ≡ 92 →
    get_or (behind y) 0 0 ≡ 10 → z ≡ skip_blanks (behind (behind y)) → IsValue v z
    → IsValue (32 ∷ v) y
line_step [] z v h k p q e i = absurd (omega arith)
line_step (c ∷ x) z v h k p q e i = line_at c x (behind (c ∷ x)) v (behind_is c x) k p q
    (subst (IsValue v) e i)
