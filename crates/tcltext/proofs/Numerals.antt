-- What is read as a number is what is spelled.
use Rattle.std.proofs.Common.{◌≡◌, ℕ, ◌+◌, ◌*◌, ◌<◌, ◌≤◌, ◌==◌, nat_lt, nat_le, List, [], ◌∷◌, ◌++◌, inl, inr, length, Bool, true, false, cond, Option, Some, None, option_map, refl, sym, ap, subst, ◌∙◌, arith, rules, ℤ, pos, neg_ℤ}
use Rattle.std.proofs.lemmas.Bool.Decides.{eqb_tells, nat_tests}
use Rattle.std.specs.List.{list_all}
use Rattle.tcltext.proofs.Choices.{and_true, first_choice, tells}
use Rattle.tcltext.specs.Digit.{digit_value, is_digit}
use Rattle.tcltext.specs.White.{is_white, skip_white, ends_element}
use Rattle.tcltext.specs.Numeral.{with_digits, number_of, AreDigits, begins_zero, IsUnsigned, decimal, octal, marked_hexadecimal, marked_octal, marked_binary, IsSigned, IsWhite, IsNumeral}
use Rattle.tcltext.specs.Numbers.{then_white, digits_behind, some_digits, behind_zero, unsigned, with_sign, signed, numeral}

-- a byte that passes a test is not one that fails it
not_same : (P : ℕ → Bool) (c k : ℕ) → P c ≡ true → P k ≡ false → (c == k) ≡ false
not_same P c k h m = elim (eqb_tells c k) [
  | inl p ↦ let same : P k ≡ true = subst (λ b. P b ≡ true) p.1 h in absurd (cc)
  | inr p ↦ p.0
]

white_at : (c : ℕ) (x : List ℕ) (b : Bool) → is_white c ≡ b → cond b (skip_white x) (c ∷ x) ≡ [] →
    is_white c ≡ true
white_at c x true e h = e
white_at c x false e h = absurd (cc)

white_head : (c : ℕ) (x : List ℕ) → IsWhite (c ∷ x) → is_white c ≡ true
white_head c x h = white_at c x (is_white c) refl h

white_tail : (c : ℕ) (x : List ℕ) → IsWhite (c ∷ x) → IsWhite x
white_tail c x h = sym (first_choice (is_white c) (skip_white x) (c ∷ x) (white_head c x h)) ∙ h

white_small : (c : ℕ) → is_white c ≡ true → c ≤ 32
white_small c h = grind (arith, nat_tests)

no_value : (c : ℕ) → c ≤ 32 → digit_value c ≡ 16
no_value c h =
    let a : nat_le 48 c ≡ false = search (rules, nat_tests) in
    let b : nat_le 97 c ≡ false = search (rules, nat_tests) in
    let d : nat_le 65 c ≡ false = search (rules, nat_tests) in
    rw (a, b, d) refl

-- white is no digit
white_digit : (base c : ℕ) → base ≤ 16 → is_white c ≡ true → is_digit base c ≡ false
white_digit base c small h =
    let below : nat_lt 16 base ≡ false = search (rules, nat_tests) in
    ap (λ d. nat_lt d base) (no_value c (white_small c h)) ∙ below

behind_spelled : (ds u : List ℕ) (base n : ℕ) → base ≤ 16 → AreDigits base ds → IsWhite u →
    digits_behind base n (ds ++ u) ≡ Some (with_digits base n ds)
behind_spelled [] [] base n small h white = refl
behind_spelled [] (c ∷ u) base n small h white =
    let no : is_digit base c ≡ false = white_digit base c small (white_head c u white) in
    let only : then_white n (skip_white (c ∷ u)) ≡ Some n = ap (then_white n) white in
    rw no only
behind_spelled (c ∷ ds) u base n small h white =
    let p = and_true (is_digit base c) (list_all (is_digit base) ds) h in
    first_choice (is_digit base c) (digits_behind base (base * n + digit_value c) (ds ++ u))
    (then_white n (skip_white (c ∷ (ds ++ u)))) p.0
    ∙ behind_spelled ds u base (base * n + digit_value c) small p.1 white

digits_spelled : (ds u : List ℕ) (base : ℕ) → base ≤ 16 → AreDigits base ds → 0 < length ds →
    IsWhite u → some_digits base (ds ++ u) ≡ Some (number_of base ds)
digits_spelled [] u base small h some white = absurd (omega arith)
digits_spelled (c ∷ ds) u base small h some white =
    let p = and_true (is_digit base c) (list_all (is_digit base) ds) h in
    first_choice (is_digit base c) (digits_behind base 0 (c ∷ (ds ++ u))) None p.0
    ∙ behind_spelled (c ∷ ds) u base 0 small h white

-- a byte that is none of the letters after a 0
plain_zero : (P : ℕ → Bool) (c : ℕ) (x : List ℕ) → P c ≡ true → P 120 ≡ false → P 111 ≡ false → P 98
    ≡ false → behind_zero (c ∷ x) ≡ digits_behind 8 0 (c ∷ x)
plain_zero P c x h k m n =
    let a : (c == 120) ≡ false = not_same P c 120 h k in
    let b : (c == 111) ≡ false = not_same P c 111 h m in
    let d : (c == 98) ≡ false = not_same P c 98 h n in
    rw (a, b, d) refl

octal_spelled : (ds u : List ℕ) → AreDigits 8 ds → IsWhite u → behind_zero (ds ++ u)
    ≡ Some (number_of 8 ds)
octal_spelled [] [] h white = refl
octal_spelled [] (c ∷ u) h white = plain_zero is_white c u (white_head c u white) refl refl refl
    ∙ behind_spelled [] (c ∷ u) 8 0 (omega arith) h white
octal_spelled (c ∷ ds) u h white =
    let p = and_true (is_digit 8 c) (list_all (is_digit 8) ds) h in
    plain_zero (is_digit 8) c (ds ++ u) p.0 refl refl refl
    ∙ behind_spelled (c ∷ ds) u 8 0 (omega arith) h white

decimal_spelled : (ds u : List ℕ) → AreDigits 10 ds → 0 < length ds → begins_zero ds ≡ false →
    IsWhite u → unsigned (ds ++ u) ≡ Some (number_of 10 ds)
decimal_spelled [] u h some begins white = absurd (omega arith)
decimal_spelled (c ∷ ds) u h some begins white =
    rw begins (digits_spelled (c ∷ ds) u 10 (omega arith) h some white)

unsigned_spelled : (m : ℕ) (d u : List ℕ) → IsUnsigned m d → IsWhite u → unsigned (d ++ u) ≡ Some m
unsigned_spelled _ _ u (decimal ds h some begins) white = decimal_spelled ds u h some begins white
unsigned_spelled _ _ u (octal ds h) white = octal_spelled ds u h white
unsigned_spelled _ _ u (marked_hexadecimal ds h some) white =
    digits_spelled ds u 16 (omega arith) h some white
unsigned_spelled _ _ u (marked_octal ds h some) white =
    digits_spelled ds u 8 (omega arith) h some white
unsigned_spelled _ _ u (marked_binary ds h some) white =
    digits_spelled ds u 2 (omega arith) h some white

-- a number without a sign begins with a decimal digit
abbrev Begins : List ℕ → Type 0
Begins d = (c : ℕ) × (y : List ℕ) × (d ≡ c ∷ y) × (is_digit 10 c ≡ true)

decimal_begins : (ds : List ℕ) → AreDigits 10 ds → 0 < length ds → Begins ds
decimal_begins [] h some = absurd (omega arith)
decimal_begins (c ∷ ds) h some =
    (c, ds, refl, (and_true (is_digit 10 c) (list_all (is_digit 10) ds) h).0)

unsigned_begins : (m : ℕ) (d : List ℕ) → IsUnsigned m d → Begins d
unsigned_begins _ _ (decimal ds h some begins) = decimal_begins ds h some
unsigned_begins _ _ (octal ds h) = (48, ds, refl, refl)
unsigned_begins _ _ (marked_hexadecimal ds h some) = (48, 120 ∷ ds, refl, refl)
unsigned_begins _ _ (marked_octal ds h some) = (48, 111 ∷ ds, refl, refl)
unsigned_begins _ _ (marked_binary ds h some) = (48, 98 ∷ ds, refl, refl)

pub skip_over : (w y : List ℕ) → IsWhite w → ends_element y ≡ false → skip_white (w ++ y) ≡ y
skip_over [] [] h begins = absurd (cc)
skip_over [] (c ∷ y) h begins = rw begins refl
skip_over (c ∷ w) y h begins = first_choice (is_white c) (skip_white (w ++ y)) (c ∷ (w ++ y))
    (white_head c w h) ∙ skip_over w y (white_tail c w h) begins

-- a digit is no white
digit_black : (c : ℕ) → is_digit 10 c ≡ true → is_white c ≡ false
digit_black c h = elim (tells (is_white c)) [
  | inl p ↦ let no : is_digit 10 c ≡ false = white_digit 10 c (omega arith) p in absurd (cc)
  | inr p ↦ p
]

unsigned_plain : (c : ℕ) (y : List ℕ) → is_digit 10 c ≡ true → signed (c ∷ y)
    ≡ option_map (λ m. pos m) (unsigned (c ∷ y))
unsigned_plain c y h =
    let a : (c == 45) ≡ false = not_same (is_digit 10) c 45 h refl in
    let b : (c == 43) ≡ false = not_same (is_digit 10) c 43 h refl in
    rw (a, b) refl

-- after white: the sign, the number and white
sign_spelled : (n : ℤ) (s d u : List ℕ) (m : ℕ) → IsUnsigned m d → IsWhite u → IsSigned s m n →
    (ends_element (s ++ (d ++ u)) ≡ false) × (signed (s ++ (d ++ u)) ≡ Some n)
sign_spelled n s d u m h white (inl (p, is)) =
    let read = unsigned_spelled m d u h white in
    elim p [
      | inl none ↦
          let b = unsigned_begins m d h in
          let at : s ++ (d ++ u) ≡ b.0 ∷ (b.1 ++ u) =
          ap (λ t. t ++ (d ++ u)) none ∙ ap (λ t. t ++ u) b.2 in (
            ap ends_element at ∙ digit_black b.0 b.3,
            ap signed at ∙ unsigned_plain b.0 (b.1 ++ u) b.3
                ∙ ap (λ t. option_map (λ k. pos k) (unsigned (t ++ u))) (sym b.2)
                ∙ ap (λ o. option_map (λ k. pos k) o) read ∙ ap (λ k. Some k) (sym is),
          )
      | inr plus ↦ (
        ap (λ t. ends_element (t ++ (d ++ u))) plus,
        ap (λ t. signed (t ++ (d ++ u))) plus
            ∙ ap (λ o. option_map (λ k. pos k) o) read ∙ ap (λ k. Some k) (sym is),
      )
    ]
sign_spelled n s d u m h white (inr (minus, is)) =
    let read = unsigned_spelled m d u h white in (
      ap (λ t. ends_element (t ++ (d ++ u))) minus,
      ap (λ t. signed (t ++ (d ++ u))) minus
          ∙ ap (λ o. option_map (λ k. neg_ℤ (pos k)) o) read ∙ ap (λ k. Some k) (sym is),
    )

-- What is spelled is read.
pub numeral_read : (n : ℤ) (x : List ℕ) → IsNumeral n x → numeral x ≡ Some n
numeral_read n x h =
    let s = sign_spelled n h.1 h.2 h.3 h.4 h.8 h.7 h.9 in
    ap numeral h.5 ∙ ap signed (skip_over h.0 (h.1 ++ (h.2 ++ h.3)) h.6 s.0) ∙ s.1

pub one_value : (x : List ℕ) (n m : ℤ) → IsNumeral n x → IsNumeral m x → n ≡ m
one_value x n m h k = let same : Some n ≡ Some m = sym (numeral_read n x h) ∙ numeral_read m x k in
    cc

-- What is read is spelled: the white at the front
skip_splits_at : (c : ℕ) (x : List ℕ) (b : Bool) → is_white c ≡ b →
    ((w : List ℕ) × (x ≡ w ++ skip_white x) × IsWhite w)
    → (w : List ℕ) × (c ∷ x ≡ w ++ (cond b (skip_white x) (c ∷ x))) × IsWhite w
skip_splits_at c x true e h = (c ∷ h.0, ap (λ y. c ∷ y) h.1, rw e h.2)
skip_splits_at c x false e h = ([], refl, refl)

pub skip_splits : (x : List ℕ) → (w : List ℕ) × (x ≡ w ++ skip_white x) × IsWhite w
skip_splits [] = ([], refl, refl)
skip_splits (c ∷ x) = skip_splits_at c x (is_white c) refl (skip_splits x)

white_alone : (n m : ℕ) (x : List ℕ) → then_white n x ≡ Some m → (x ≡ []) × (m ≡ n)
white_alone n m [] h = (refl, cc)
white_alone n m (c ∷ x) h = absurd (cc)

one_more : (base c : ℕ) (ds : List ℕ) → is_digit base c ≡ true → AreDigits base ds →
    AreDigits base (c ∷ ds)
one_more base c ds e h = rw e h

-- digits after n, and white
abbrev Digits : ℕ → ℕ → List ℕ → ℕ → Type 0
Digits base n x m = (ds u : List ℕ) × (x ≡ ds ++ u) × AreDigits base ds × IsWhite u
    × (m ≡ with_digits base n ds)

behind_spells_at : (c : ℕ) (x : List ℕ) (base n m : ℕ) (b : Bool) → is_digit base c ≡ b
    → cond b (digits_behind base (base * n + digit_value c) x) (then_white n (skip_white (c ∷ x)))
    ≡ Some m
    → (digits_behind base (base * n + digit_value c) x ≡ Some m →
    Digits base (base * n + digit_value c) x m) → Digits base n (c ∷ x) m
behind_spells_at c x base n m true e h so =
    let rest = so h in
    let all = one_more base c rest.0 e rest.3 in
    (c ∷ rest.0, rest.1, ap (λ y. c ∷ y) rest.2, all, rest.4, rest.5)
behind_spells_at c x base n m false e h so =
    let only = white_alone n m (skip_white (c ∷ x)) h in
    ([], c ∷ x, refl, refl, only.0, only.1)

behind_spells : (x : List ℕ) (base n m : ℕ) → digits_behind base n x ≡ Some m → Digits base n x m
behind_spells [] base n m h = let same : m ≡ n = cc in ([], [], refl, refl, refl, same)
behind_spells (c ∷ x) base n m h = behind_spells_at c x base n m (is_digit base c) refl h
    (λ k. behind_spells x base (base * n + digit_value c) m k)

-- at least one digit, and white
abbrev SomeDigits : ℕ → List ℕ → ℕ → Type 0
SomeDigits base x m = (ds u : List ℕ) × (x ≡ ds ++ u) × AreDigits base ds × IsWhite u
    × (m ≡ number_of base ds) × (0 < length ds)

some_spells_at : (c : ℕ) (x : List ℕ) (base m : ℕ) (b : Bool) → is_digit base c ≡ b →
    cond b (digits_behind base 0 (c ∷ x)) None ≡ Some m → SomeDigits base (c ∷ x) m
some_spells_at c x base m false e h = absurd (cc)
some_spells_at c x base m true e h =
    let rest : digits_behind base (base * 0 + digit_value c) x ≡ Some m =
    sym (first_choice (is_digit base c) (digits_behind base (base * 0 + digit_value c) x)
    (then_white 0 (skip_white (c ∷ x))) e) ∙ h in
    let more = behind_spells x base (base * 0 + digit_value c) m rest in
    let all = one_more base c more.0 e more.3 in
    (c ∷ more.0, more.1, ap (λ y. c ∷ y) more.2, all, more.4, more.5, omega arith)

some_spells : (x : List ℕ) (base m : ℕ) → some_digits base x ≡ Some m → SomeDigits base x m
some_spells [] base m h = absurd (cc)
some_spells (c ∷ x) base m h = some_spells_at c x base m (is_digit base c) refl h

-- a number without a sign, and white
abbrev Unsigned : List ℕ → ℕ → Type 0
Unsigned x m = (d u : List ℕ) × (x ≡ d ++ u) × IsUnsigned m d × IsWhite u

zero_spells : (x : List ℕ) (m : ℕ) → behind_zero x ≡ Some m → Unsigned (48 ∷ x) m
zero_spells [] m h = let none : m ≡ number_of 8 [] = cc in
    (48 ∷ [], [], refl, subst (λ k. IsUnsigned k (48 ∷ [])) (sym none) (octal [] refl), refl)
zero_spells (c ∷ x) m h = elim (eqb_tells c 120) [
  | inl p ↦
      let s = some_spells x 16 m (rw p.0 at h) in (
        48 ∷ 120 ∷ s.0,
        s.1,
        ap (λ b. 48 ∷ b ∷ x) p.1 ∙ ap (λ y. 48 ∷ 120 ∷ y) s.2,
        subst (λ k. IsUnsigned k (48 ∷ 120 ∷ s.0)) (sym s.5) (marked_hexadecimal s.0 s.3 s.6),
        s.4,
      )
  | inr p ↦ elim (eqb_tells c 111) [
    | inl q ↦
        let s = some_spells x 8 m (rw (p.0, q.0) at h) in (
          48 ∷ 111 ∷ s.0,
          s.1,
          ap (λ b. 48 ∷ b ∷ x) q.1 ∙ ap (λ y. 48 ∷ 111 ∷ y) s.2,
          subst (λ k. IsUnsigned k (48 ∷ 111 ∷ s.0)) (sym s.5) (marked_octal s.0 s.3 s.6),
          s.4,
        )
    | inr q ↦ elim (eqb_tells c 98) [
      | inl r ↦
          let s = some_spells x 2 m (rw (p.0, q.0, r.0) at h) in (
            48 ∷ 98 ∷ s.0,
            s.1,
            ap (λ b. 48 ∷ b ∷ x) r.1 ∙ ap (λ y. 48 ∷ 98 ∷ y) s.2,
            subst (λ k. IsUnsigned k (48 ∷ 98 ∷ s.0)) (sym s.5) (marked_binary s.0 s.3 s.6),
            s.4,
          )
      | inr r ↦
          let rest : digits_behind 8 0 (c ∷ x) ≡ Some m = rw (p.0, q.0, r.0) at h in
          let s = behind_spells (c ∷ x) 8 0 m rest in (
            48 ∷ s.0,
            s.1,
            ap (λ y. 48 ∷ y) s.2,
            subst (λ k. IsUnsigned k (48 ∷ s.0)) (sym s.5) (octal s.0 s.3),
            s.4,
          )
    ]
  ]
]

begins_same : (ds u : List ℕ) (c : ℕ) (x : List ℕ) → c ∷ x ≡ ds ++ u → 0 < length ds → (c == 48)
    ≡ false → begins_zero ds ≡ false
begins_same [] u c x h some begins = absurd (omega arith)
begins_same (d ∷ ds) u c x h some begins = let same : c ≡ d = cc in
    subst (λ b. (b == 48) ≡ false) same begins

unsigned_spells : (x : List ℕ) (m : ℕ) → unsigned x ≡ Some m → Unsigned x m
unsigned_spells [] m h = absurd (cc)
unsigned_spells (c ∷ x) m h = elim (eqb_tells c 48) [
  | inl p ↦ subst (λ b. Unsigned (b ∷ x) m) (sym p.1) (zero_spells x m (rw p.0 at h))
  | inr p ↦
      let rest : some_digits 10 (c ∷ x) ≡ Some m = rw p.0 at h in
      let s = some_spells (c ∷ x) 10 m rest in (
        s.0,
        s.1,
        s.2,
        subst (λ k. IsUnsigned k s.0) (sym s.5)
            (decimal s.0 s.3 s.6 (begins_same s.0 s.1 c x s.2 s.6 p.0)),
        s.4,
      )
]

-- the number under its sign
pub size_of : (negative : Bool) (o : Option ℕ) (n : ℤ) → option_map (with_sign negative) o ≡ Some n
    → (m : ℕ) × (o ≡ Some m) × (n ≡ with_sign negative m)
size_of negative None n h = absurd (cc)
size_of negative (Some m) n h = (m, refl, cc)

-- a sign and a number without one, and white
abbrev Signed : List ℕ → ℤ → Type 0
Signed x n = (s d u : List ℕ) × (m : ℕ) × (x ≡ s ++ (d ++ u)) × IsUnsigned m d × IsWhite u
    × IsSigned s m n

signed_spells : (x : List ℕ) (n : ℤ) → signed x ≡ Some n → Signed x n
signed_spells [] n h = absurd (cc)
signed_spells (c ∷ x) n h = elim (eqb_tells c 45) [
  | inl p ↦
      let size = size_of true (unsigned x) n (rw p.0 at h) in
      let s = unsigned_spells x size.0 size.1 in (
        45 ∷ [],
        s.0,
        s.1,
        size.0,
        ap (λ b. b ∷ x) p.1 ∙ ap (λ y. 45 ∷ y) s.2,
        s.3,
        s.4,
        inr (refl, size.2),
      )
  | inr p ↦ elim (eqb_tells c 43) [
    | inl q ↦
        let size = size_of false (unsigned x) n (rw (p.0, q.0) at h) in
        let s = unsigned_spells x size.0 size.1 in (
          43 ∷ [],
          s.0,
          s.1,
          size.0,
          ap (λ b. b ∷ x) q.1 ∙ ap (λ y. 43 ∷ y) s.2,
          s.3,
          s.4,
          inl (inr refl, size.2),
        )
    | inr q ↦
        let size = size_of false (unsigned (c ∷ x)) n (rw (p.0, q.0) at h) in
        let s = unsigned_spells (c ∷ x) size.0 size.1 in
        ([], s.0, s.1, size.0, s.2, s.3, s.4, inl (inl refl, size.2))
  ]
]

-- What is read is spelled.
pub numeral_spelled : (n : ℤ) (x : List ℕ) → numeral x ≡ Some n → IsNumeral n x
numeral_spelled n x h =
    let w = skip_splits x in
    let s = signed_spells (skip_white x) n h in
    (w.0, s.0, s.1, s.2, s.3, w.1 ∙ ap (λ y. w.0 ++ y) s.4, w.2, s.6, s.5, s.7)
