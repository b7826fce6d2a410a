-- How a set ends, and which sign is the last.
use Rattle.std.proofs.Common.{◌≡◌, ℕ, zero, suc, ◌<◌, ◌≤◌, Bool, true, false, cond, List, [], ◌∷◌, ◌++◌, length, take, drop, refl, sym, ◌∙◌, ap, arith, slice_index, ◌==◌}
use Rattle.std.proofs.lemmas.Bool.{false_from_ne_true}
use Rattle.std.proofs.lemmas.List.{append-nil, append_assoc}
use Rattle.patterns.specs.Glob.{Sign, a_set, signs, signs_in_set, is_dollar, ends_in_dollar}

-- the first `]` ends a set
pub signs_in_set-closed : (so_far text : List ℕ) (k : ℕ) → k < length text →
    ((j : ℕ) → 0 ≤ j → j < k → ¬ ((slice_index text j == 93) ≡ true)) → (slice_index text k == 93)
    ≡ true →
    signs_in_set so_far text ≡ a_set (so_far ++ take k text) ∷ signs (drop (suc k) text)
signs_in_set-closed so_far [] k within before here = absurd (omega arith)
signs_in_set-closed so_far (c ∷ text) zero within before here =
    ap (λ (b : Bool). cond b (a_set so_far ∷ signs text) (signs_in_set (so_far ++ c ∷ []) text))
    here
    ∙ ap (λ (x : List ℕ). a_set x ∷ signs text) (sym (append-nil so_far))
signs_in_set-closed so_far (c ∷ text) (suc k) within before here =
    let open' : (c == 93) ≡ false = false_from_ne_true (c == 93)
    (before 0 (omega arith) (omega arith)) in
    ap (λ (b : Bool). cond b (a_set so_far ∷ signs text) (signs_in_set (so_far ++ c ∷ []) text))
    open'
    ∙ signs_in_set-closed (so_far ++ c ∷ []) text k (omega arith)
    (λ j low lt. before (suc j) (omega arith) (omega arith)) here
    ∙ ap (λ (x : List ℕ). a_set x ∷ signs (drop (suc k) text))
    (append_assoc so_far (c ∷ []) (take k text))

-- with no `]` a set goes to the end
pub signs_in_set-open : (so_far text : List ℕ) →
    ((j : ℕ) → 0 ≤ j → j < length text → ¬ ((slice_index text j == 93) ≡ true)) →
    signs_in_set so_far text ≡ a_set (so_far ++ text) ∷ []
signs_in_set-open so_far [] before = ap (λ (x : List ℕ). a_set x ∷ []) (sym (append-nil so_far))
signs_in_set-open so_far (c ∷ text) before =
    let open' : (c == 93) ≡ false = false_from_ne_true (c == 93)
    (before 0 (omega arith) (omega arith)) in
    ap (λ (b : Bool). cond b (a_set so_far ∷ signs text) (signs_in_set (so_far ++ c ∷ []) text))
    open'
    ∙ signs_in_set-open (so_far ++ c ∷ []) text (λ j low lt.
    before (suc j) (omega arith) (omega arith))
    ∙ ap (λ (x : List ℕ). a_set x ∷ []) (append_assoc so_far (c ∷ []) text)

-- whether the last sign is a bare `$`, where `so_far` says it of the signs before these
abbrev pub dollar_after : Bool → List Sign → Bool
dollar_after so_far [] = so_far
dollar_after so_far (s ∷ ss) = dollar_after (is_dollar s) ss

dollar_after-cons : (s : Sign) (ss : List Sign) → ends_in_dollar (s ∷ ss)
    ≡ dollar_after (is_dollar s) ss
dollar_after-cons s [] = refl
dollar_after-cons s (t ∷ ss) = dollar_after-cons t ss

pub dollar_after-false : (ss : List Sign) → ends_in_dollar ss ≡ dollar_after false ss
dollar_after-false [] = refl
dollar_after-false (s ∷ ss) = dollar_after-cons s ss

-- the last sign of all says whether they end in a bare `$`
pub dollar_last : (so_far : Bool) (s : Sign) (before after all : List Sign) → before ≡ s ∷ after →
    after ≡ [] → dollar_after so_far before ≡ dollar_after false all → ends_in_dollar all
    ≡ is_dollar s
dollar_last so_far s before after all sign none h =
    dollar_after-false all ∙ sym h ∙ ap (dollar_after so_far) sign
    ∙ ap (dollar_after (is_dollar s)) none

-- where all signs are read, the last one says whether they end in a bare `$`
pub dollar_read : (so_far : Bool) (before all : List Sign) → before ≡ [] →
    dollar_after so_far before ≡ dollar_after false all → ends_in_dollar all ≡ so_far
dollar_read so_far before all none h = dollar_after-false all ∙ sym h
    ∙ ap (dollar_after so_far) none
