-- What is skipped between words and commands is white space, separators, continued lines and
-- comments.
use Rattle.std.proofs.Common.{◌≡◌, ℕ, ◌==◌, ◌&&◌, ◌||◌, List, [], ◌∷◌, ◌++◌, Bool, true, false, if◌then◌else◌, refl, sym, ap, subst, inl, inr, ◌∙◌, ◌⊎◌, append_assoc, append-nil}
use Rattle.std.proofs.lemmas.Bool.Decides.{eqb_tells}
use Rattle.tclparse.specs.Context.{Context, whole_script, bracketed, argument, is_white, is_separator, is_continuation}
use Rattle.tclparse.specs.Gap.{Gap, skip_white, skip_gap, between, comment, in_pair}
use Rattle.tclparse.specs.Spelling.{IsWhiteText, no_white, white, white_line, IsComment, no_comment, comment_byte, comment_pair, IsGapText, no_gap, gap_byte, gap_line, gap_comment, IsLastComment, Begins, BeginsWhole}

-- P holds of whichever branch a test chooses, where each branch may use the result of the test
pub if_known : {A : Type 0} (P : A → Type 0) (b : Bool) (y z : A) → (b ≡ true → P y) →
    (b ≡ false → P z) → P (if b then y else z)
if_known P true y z h k = h refl
if_known P false y z h k = k refl

pub equal_if : (a b : ℕ) → (a == b) ≡ true → a ≡ b
equal_if a b h = elim (eqb_tells a b) [
  | inl p ↦ p.1
  | inr p ↦ absurd (cc (p.0, h))
]

pub both : (a b : Bool) → (a && b) ≡ true → (a ≡ true) × (b ≡ true)
both true b h = (refl, h)
both false b h = absurd (cc)

abbrev White : Context → List ℕ → List ℕ → Type 0
White context x z = Begins (λ s. IsWhiteText context s) x z

at_white_line : (context : Context) (c d : ℕ) (x z : List ℕ) → is_continuation c (d ∷ x) ≡ true →
    White context x z → White context (c ∷ d ∷ x) z
at_white_line context c d x z e h =
    let k = both (c == 92) (d == 10) e in
    let line : White context (92 ∷ 10 ∷ x) z =
    (92 ∷ 10 ∷ h.0, ap (λ l. 92 ∷ 10 ∷ l) h.1, white_line context h.0 h.2) in
    subst (λ a. White context (a ∷ d ∷ x) z) (sym (equal_if c 92 k.0))
    (subst (λ b. White context (92 ∷ b ∷ x) z) (sym (equal_if d 10 k.1)) line)

at_white_none : (context : Context) (x : List ℕ) → White context x x
at_white_none context x = ([], refl, no_white context)

at_white_byte : (context : Context) (c : ℕ) (x z : List ℕ) → is_white context c ≡ true →
    White context x z → White context (c ∷ x) z
at_white_byte context c x z e h = (c ∷ h.0, ap (λ l. c ∷ l) h.1, white context c h.0 e h.2)

pub white_spelled : (context : Context) (x : List ℕ) → White context x (skip_white context false x)
white_spelled context [] = at_white_none context []
white_spelled context (c ∷ []) =
    if_known (λ z. White context (c ∷ []) z) (is_white context c) [] _
    (λ e. at_white_byte context c [] [] e (at_white_none context []))
    (λ n. if_known (λ z. White context (c ∷ []) z) (is_continuation c []) [] (c ∷ [])
    (λ e. absurd (cc ((both (c == 92) false e).1))) (λ m. at_white_none context (c ∷ [])))
white_spelled context (c ∷ d ∷ x) =
    let whole = c ∷ d ∷ x in
    if_known (λ z. White context whole z) (is_white context c) (skip_white context false (d ∷ x)) _
    (λ e. at_white_byte context c (d ∷ x) (skip_white context false (d ∷ x)) e
    (white_spelled context (d ∷ x)))
    (λ n. if_known (λ z. White context whole z) (is_continuation c (d ∷ x))
    (skip_white context false x) whole (λ e. at_white_line context c d x
    (skip_white context false x) e (white_spelled context x))
    (λ m. at_white_none context whole))

abbrev Gapped : Context → List ℕ → List ℕ → Type 0
Gapped context x z = BeginsWhole (λ s. IsGapText context s) x z

-- in a comment: a newline ends it, with a gap after it, or the text's end does
abbrev InComment : Context → List ℕ → List ℕ → Type 0
InComment context x z =
    ((k y : List ℕ) × (x ≡ k ++ 10 ∷ y) × IsComment k × Gapped context y z) ⊎
    ((z ≡ []) × (k : List ℕ) × IsComment k × ((x ≡ k) ⊎ (x ≡ k ++ 92 ∷ [])))

at_gap_none : (context : Context) (x : List ℕ) → Gapped context x x
at_gap_none context x = ([], [], refl, no_gap context, inl refl)

at_gap_byte : (context : Context) (c : ℕ) (x z : List ℕ) →
    is_white context c || is_separator context c ≡ true → Gapped context x z →
    Gapped context (c ∷ x) z
at_gap_byte context c x z e h = (
  c ∷ h.0,
  h.1,
  ap (λ l. c ∷ l) h.2,
  gap_byte context c h.0 e h.3,
  h.4,
)

at_gap_line : (context : Context) (c d : ℕ) (x z : List ℕ) → is_continuation c (d ∷ x) ≡ true →
    Gapped context x z → Gapped context (c ∷ d ∷ x) z
at_gap_line context c d x z e h =
    let k = both (c == 92) (d == 10) e in
    let line : Gapped context (92 ∷ 10 ∷ x) z =
    (92 ∷ 10 ∷ h.0, h.1, ap (λ l. 92 ∷ 10 ∷ l) h.2, gap_line context h.0 h.3, h.4) in
    subst (λ a. Gapped context (a ∷ d ∷ x) z) (sym (equal_if c 92 k.0))
    (subst (λ b. Gapped context (92 ∷ b ∷ x) z) (sym (equal_if d 10 k.1)) line)

-- the last bytes of a comment, with or without a backslash
abbrev Last : List ℕ → List ℕ → Type 0
Last x k = (x ≡ k) ⊎ (x ≡ k ++ 92 ∷ [])

last_more : (f x k : List ℕ) → Last x k → Last (f ++ x) (f ++ k)
last_more f x k (inl h) = inl (ap (λ l. f ++ l) h)
last_more f x k (inr h) = inr (ap (λ l. f ++ l) h ∙ sym (append_assoc f k (92 ∷ [])))

last_comment : (x k : List ℕ) → IsComment k → Last x k → IsLastComment (35 ∷ x)
last_comment x k h (inl e) = (k, h, inl (ap (λ l. 35 ∷ l) e))
last_comment x k h (inr e) = (k, h, inr (ap (λ l. 35 ∷ l) e))

-- a comment with its newline, and the gap after it
at_gap_comment : (context : Context) (x z : List ℕ) → InComment context x z →
    Gapped context (35 ∷ x) z
at_gap_comment context x z (inl h) =
    let g = h.4 in
    let joined : x ≡ (h.0 ++ 10 ∷ g.0) ++ (g.1 ++ z) =
    h.2 ∙ ap (λ l. h.0 ++ 10 ∷ l) g.2 ∙ sym (append_assoc h.0 (10 ∷ g.0) (g.1 ++ z)) in
    (35 ∷ (h.0 ++ 10 ∷ g.0), g.1, ap (λ l. 35 ∷ l) joined, gap_comment context h.0 g.0 h.3 g.3, g.4)
at_gap_comment context x z (inr h) = (
  [],
  35 ∷ x,
  subst (λ w. 35 ∷ x ≡ 35 ∷ (x ++ w)) (sym h.0)
      (ap (λ l. 35 ∷ l) (sym (append-nil x))),
  no_gap context,
  inr (h.0, last_comment x h.1 h.2 h.3),
)

at_comment_none : (context : Context) → InComment context [] []
at_comment_none context = inr (refl, [], no_comment, inl refl)

at_comment_byte : (context : Context) (c : ℕ) (x z : List ℕ) → (c == 10) ≡ false → (c == 92) ≡ false
    → InComment context x z → InComment context (c ∷ x) z
at_comment_byte context c x z e n (inl h) =
    inl (c ∷ h.0, h.1, ap (λ l. c ∷ l) h.2, comment_byte c h.0 e n h.3, h.4)
at_comment_byte context c x z e n (inr h) =
    inr (h.0, c ∷ h.1, comment_byte c h.1 e n h.2, last_more (c ∷ []) x h.1 h.3)

at_comment_pair : (context : Context) (c d : ℕ) (x z : List ℕ) → (c == 92) ≡ true →
    InComment context x z → InComment context (c ∷ d ∷ x) z
at_comment_pair context c d x z e (inl h) =
    let pair : InComment context (92 ∷ d ∷ x) z =
    inl (92 ∷ d ∷ h.0, h.1, ap (λ l. 92 ∷ d ∷ l) h.2, comment_pair d h.0 h.3, h.4) in
    subst (λ a. InComment context (a ∷ d ∷ x) z) (sym (equal_if c 92 e)) pair
at_comment_pair context c d x z e (inr h) =
    let pair : InComment context (92 ∷ d ∷ x) z =
    inr (h.0, 92 ∷ d ∷ h.1, comment_pair d h.1 h.2, last_more (92 ∷ d ∷ []) x h.1 h.3) in
    subst (λ a. InComment context (a ∷ d ∷ x) z) (sym (equal_if c 92 e)) pair

at_comment_backslash : (context : Context) (c : ℕ) → (c == 92) ≡ true →
    InComment context (c ∷ []) []
at_comment_backslash context c e = inr (
  refl,
  [],
  no_comment,
  inr (ap (λ b. b ∷ []) (equal_if c 92 e)),
)

at_comment_newline : (context : Context) (c : ℕ) (x z : List ℕ) → (c == 10) ≡ true →
    Gapped context x z → InComment context (c ∷ x) z
at_comment_newline context c x z e h = inl ([], x, ap (λ b. b ∷ x) (equal_if c 10 e), no_comment, h)

-- the state after a byte of a comment
abbrev After : Context → List ℕ → List ℕ → Gap → Type 0
After context x y gap = InComment context x (skip_gap context gap y)

newline_skipped : (context : Context) (x : List ℕ) → skip_gap context between (10 ∷ x)
    ≡ skip_gap context between x
newline_skipped whole_script x = refl
newline_skipped bracketed x = refl
newline_skipped argument x = refl

mutual
  pub gap_spelled : (context : Context) (x : List ℕ) → Gapped context x (skip_gap context between x)
  gap_spelled context [] = at_gap_none context []
  gap_spelled context (c ∷ x) =
      let whole = c ∷ x in
      if_known (λ z. Gapped context whole z) (is_white context c || is_separator context c)
      (skip_gap context between x) _ (λ e. at_gap_byte context c x (skip_gap context between x)
      e (gap_spelled context x))
      (λ n. if_known (λ z. Gapped context whole z) (c == 35) (skip_gap context comment x) _
      (λ e. subst (λ b. Gapped context (b ∷ x) (skip_gap context comment x)) (sym (equal_if c 35 e))
      (at_gap_comment context x (skip_gap context comment x) (comment_spelled context x)))
      (λ m. if_known (λ z. Gapped context whole z) (is_continuation c x)
      (skip_gap context between x) whole (λ e. line_spelled context c x e)
      (λ k. at_gap_none context whole)))

  line_spelled : (context : Context) (c : ℕ) (x : List ℕ) → is_continuation c x ≡ true →
      Gapped context (c ∷ x) (skip_gap context between x)
  line_spelled context c [] e = absurd (cc ((both (c == 92) false e).1))
  line_spelled context c (d ∷ x) e =
      let newline = equal_if d 10 (both (c == 92) (d == 10) e).1 in
      subst (λ z. Gapped context (c ∷ d ∷ x) z)
      (sym (ap (λ b. skip_gap context between (b ∷ x)) newline ∙ newline_skipped context x))
      (at_gap_line context c d x (skip_gap context between x) e (gap_spelled context x))

  comment_spelled : (context : Context) (x : List ℕ) →
      InComment context x (skip_gap context comment x)
  comment_spelled context [] = at_comment_none context
  comment_spelled context (c ∷ x) =
      if_known (After context (c ∷ x) x) (c == 10) between _
      (λ e. at_comment_newline context c x (skip_gap context between x) e
      (gap_spelled context x))
      (λ n. if_known (After context (c ∷ x) x) (c == 92) in_pair comment
      (λ e. pair_spelled context c x e) (λ m. at_comment_byte context c x
      (skip_gap context comment x) n m (comment_spelled context x)))

  pair_spelled : (context : Context) (c : ℕ) (x : List ℕ) → (c == 92) ≡ true →
      InComment context (c ∷ x) (skip_gap context in_pair x)
  pair_spelled context c [] e = at_comment_backslash context c e
  pair_spelled context c (d ∷ x) e = at_comment_pair context c d x (skip_gap context comment x) e
      (comment_spelled context x)
