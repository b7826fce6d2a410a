-- The numeral at the front of a text is a number without a sign.
use Rattle.std.proofs.Common.{◌≡◌, ℕ, suc, ◌+◌, ◌==◌, ◌&&◌, ◌||◌, List, [], ◌∷◌, take, drop, true, false, Option, Some, None, refl, sym, ap, subst, ◌∙◌, arith}
use Rattle.tcltext.specs.Digit.{is_digit}
use Rattle.tcltext.specs.White.{skip_white}
use Rattle.tcltext.specs.Numeral.{number_of, AreDigits, IsUnsigned, decimal, octal, marked_hexadecimal, marked_octal, marked_binary}
use Rattle.tclparse.specs.declared.operator.Unary.{Unary}
use Rattle.tclparse.specs.declared.operator.Function.{Function}
use Rattle.tclparse.specs.Variable.{name_at, after_name}
use Rattle.tclparse.specs.FormulaPiece.{no_leaf, a_numeral, a_word, in_quotes, in_braces, a_substitution, Opening, a_leaf, a_prefix, a_parenthesis, a_call, is_numeric, digit_count, begins_marked, numeral_length, numeral_leaf, unary, is_truth_word, function, opens, call_opening, name_opening, word_opening, prefix_opening, opening_at, opening}
use Rattle.tclparse.proofs.Spelling.{if_known, equal_if, both}

-- the first n bytes, which were counted as digits, are digits
abbrev TakesDigits : ℕ → List ℕ → ℕ → Type 0
TakesDigits base x n = AreDigits base (take n x)

no_digits : (base : ℕ) (x : List ℕ) → AreDigits base (take 0 x)
no_digits base [] = refl
no_digits base (c ∷ x) = refl

one_digit : (base c n : ℕ) (x : List ℕ) → is_digit base c ≡ true → AreDigits base (take n x) →
    AreDigits base (take (1 + n) (c ∷ x))
one_digit base c n x h k =
    let next : suc n ≡ 1 + n = omega arith in
    let more : AreDigits base (c ∷ take n x) = rw (h, k) refl in
    subst (λ m. AreDigits base (take m (c ∷ x))) next more

digits_taken : (base : ℕ) (x : List ℕ) → AreDigits base (take (digit_count base x) x)
digits_taken base [] = refl
digits_taken base (c ∷ x) =
    if_known (TakesDigits base (c ∷ x)) (is_digit base c) (1 + digit_count base x) 0
    (λ e. one_digit base c (digit_count base x) x e (digits_taken base x))
    (λ n. no_digits base (c ∷ x))

-- a text at whose front a numeral of this length stands
abbrev IsNumber : List ℕ → ℕ → Type 0
IsNumber x n = (m : ℕ) × IsUnsigned m (take n x)

decimal_number : (c : ℕ) (x : List ℕ) → (c == 48) ≡ false → is_digit 10 c ≡ true →
    IsNumber (c ∷ x) (digit_count 10 (c ∷ x))
decimal_number c x other digit =
    let n = digit_count 10 x in
    let count : digit_count 10 (c ∷ x) ≡ suc n = rw digit (omega arith) in
    let ds : AreDigits 10 (take (suc n) (c ∷ x)) =
    subst (λ k. AreDigits 10 (take k (c ∷ x))) count (digits_taken 10 (c ∷ x)) in
    subst (IsNumber (c ∷ x)) (sym count)
    (number_of 10 (c ∷ take n x), decimal (c ∷ take n x) ds (omega arith) other)

octal_number : (c : ℕ) (x : List ℕ) → (c == 48) ≡ true → IsNumber (c ∷ x) (digit_count 8 (c ∷ x))
octal_number c x zero_is =
    let is : 48 ≡ c = sym (equal_if c 48 zero_is) in
    let n = digit_count 8 x in
    let count : digit_count 8 (48 ∷ x) ≡ suc n = omega arith in
    subst (λ b. IsNumber (b ∷ x) (digit_count 8 (b ∷ x))) is
    (subst (IsNumber (48 ∷ x)) (sym count) (number_of 8 (take n x), octal (take n x) (digits_taken 8 x)))

-- after a mark there is a digit, and a mark has a 0 before it
abbrev IsMarkedAt : ℕ → ℕ → List ℕ → Type 0
IsMarkedAt mark base x =
    (c : ℕ) × (y : List ℕ) × (x ≡ 48 ∷ mark ∷ c ∷ y) × (is_digit base c ≡ true)

marked_at : (mark base : ℕ) (x : List ℕ) → begins_marked mark base x ≡ true →
    IsMarkedAt mark base x
marked_at mark base [] h = absurd (cc (h))
marked_at mark base (z ∷ []) h = absurd (cc (h))
marked_at mark base (z ∷ m ∷ []) h = absurd (cc (h))
marked_at mark base (z ∷ m ∷ c ∷ y) h =
    let k = both (z == 48) ((m == mark) && is_digit base c) h in
    let l = both (m == mark) (is_digit base c) k.1 in (
      c,
      y,
      ap (λ b. b ∷ m ∷ c ∷ y) (equal_if z 48 k.0)
          ∙ ap (λ b. 48 ∷ b ∷ c ∷ y) (equal_if m mark l.0),
      l.1,
    )

-- the digits after a mark, of which there is at least one
abbrev SomeDigits : ℕ → ℕ → List ℕ → Type 0
SomeDigits base c y =
    (n : ℕ) × (2 + digit_count base (c ∷ y) ≡ suc (suc (suc n))) × AreDigits base (c ∷ take n y)

some_digits : (base c : ℕ) (y : List ℕ) → is_digit base c ≡ true → SomeDigits base c y
some_digits base c y h =
    let n = digit_count base y in
    let count : digit_count base (c ∷ y) ≡ suc n = rw h (omega arith) in (
      n,
      omega (arith, count),
      subst (λ k. AreDigits base (take k (c ∷ y))) count (digits_taken base (c ∷ y)),
    )

hexadecimal_number : (x : List ℕ) → IsMarkedAt 120 16 x →
    IsNumber x (2 + digit_count 16 (drop 2 x))
hexadecimal_number x h =
    let k = some_digits 16 h.0 h.1 h.3 in
    subst (λ v. IsNumber v (2 + digit_count 16 (drop 2 v))) (sym h.2)
    (subst (IsNumber (48 ∷ 120 ∷ h.0 ∷ h.1)) (sym k.1) (
      number_of 16 (h.0 ∷ take k.0 h.1),
      marked_hexadecimal (h.0 ∷ take k.0 h.1) k.2 (omega arith),
    ))

marked_octal_number : (x : List ℕ) → IsMarkedAt 111 8 x → IsNumber x (2 + digit_count 8 (drop 2 x))
marked_octal_number x h =
    let k = some_digits 8 h.0 h.1 h.3 in
    subst (λ v. IsNumber v (2 + digit_count 8 (drop 2 v))) (sym h.2)
    (subst (IsNumber (48 ∷ 111 ∷ h.0 ∷ h.1)) (sym k.1)
    (number_of 8 (h.0 ∷ take k.0 h.1), marked_octal (h.0 ∷ take k.0 h.1) k.2 (omega arith)))

binary_number : (x : List ℕ) → IsMarkedAt 98 2 x → IsNumber x (2 + digit_count 2 (drop 2 x))
binary_number x h =
    let k = some_digits 2 h.0 h.1 h.3 in
    subst (λ v. IsNumber v (2 + digit_count 2 (drop 2 v))) (sym h.2)
    (subst (IsNumber (48 ∷ 98 ∷ h.0 ∷ h.1)) (sym k.1)
    (number_of 2 (h.0 ∷ take k.0 h.1), marked_binary (h.0 ∷ take k.0 h.1) k.2 (omega arith)))

numeral_is_number : (x : List ℕ) → is_numeric x ≡ true → IsNumber x (numeral_length x)
numeral_is_number [] h = absurd (cc (h))
numeral_is_number (c ∷ x) h =
    let y = c ∷ x in
    if_known (IsNumber y) (begins_marked 120 16 y) (2 + digit_count 16 (drop 2 y)) _
    (λ e. hexadecimal_number y (marked_at 120 16 y e))
    (λ _. if_known (IsNumber y) (begins_marked 111 8 y) (2 + digit_count 8 (drop 2 y)) _
    (λ e. marked_octal_number y (marked_at 111 8 y e))
    (λ _. if_known (IsNumber y) (begins_marked 98 2 y) (2 + digit_count 2 (drop 2 y)) _
    (λ e. binary_number y (marked_at 98 2 y e))
    (λ _. if_known (IsNumber y) (c == 48) (digit_count 8 y) (digit_count 10 y)
    (octal_number c x) (λ n. decimal_number c x n h))))

-- where an operand begins with a numeral, that is a number without a sign
abbrev pub OpensNumber : Opening → Type 0
OpensNumber (a_leaf (no_leaf e)) = Unit {0}
OpensNumber (a_leaf (a_numeral s z)) = (m : ℕ) × IsUnsigned m s
OpensNumber (a_leaf (a_word s z)) = Unit {0}
OpensNumber (a_leaf (in_quotes z)) = Unit {0}
OpensNumber (a_leaf (in_braces z)) = Unit {0}
OpensNumber (a_leaf (a_substitution z)) = Unit {0}
OpensNumber (a_prefix u z) = Unit {0}
OpensNumber (a_parenthesis z) = Unit {0}
OpensNumber (a_call g z) = Unit {0}

opens_number : (d : ℕ) (o : Opening) → OpensNumber o → OpensNumber (opens d o)
opens_number d o h = if_known OpensNumber (d == 0) _ o (λ _. tt) (λ _. h)

call_number : (d : ℕ) (g : Function) (x : List ℕ) → OpensNumber (call_opening d g x)
call_number d g [] = tt
call_number d g (c ∷ x) =
    if_known OpensNumber (c == 40) (opens d (a_call g x)) _ (λ _. opens_number d (a_call g x) tt)
    (λ _. tt)

name_number : (d : ℕ) (g : Option Function) (z : List ℕ) → OpensNumber (name_opening d g z)
name_number d None z = tt
name_number d (Some g) z = call_number d g (skip_white z)

word_number : (d : ℕ) (w z : List ℕ) → OpensNumber (word_opening d w z)
word_number d w z =
    if_known OpensNumber (is_truth_word w) (a_leaf (a_word w z)) _ (λ _. tt)
    (λ _. name_number d (function w) z)

prefix_number : (d : ℕ) (u : Option Unary) (x t : List ℕ) → OpensNumber (prefix_opening d u x t)
prefix_number d (Some u) x t = opens_number d (a_prefix u x) tt
prefix_number d None x t = word_number d (name_at t) (after_name t)

number_at : (d : ℕ) (x : List ℕ) → OpensNumber (opening_at d x)
number_at d [] = tt
number_at d (c ∷ x) =
    if_known OpensNumber (c == 34) (a_leaf (in_quotes x)) _ (λ _. tt)
    (λ _. if_known OpensNumber (c == 123) (a_leaf (in_braces x)) _ (λ _. tt)
    (λ _. if_known OpensNumber ((c == 36) || (c == 91)) (a_leaf (a_substitution (c ∷ x))) _ (λ _. tt)
    (λ _. if_known OpensNumber (c == 40) (opens d (a_parenthesis x)) _
    (λ _. opens_number d (a_parenthesis x) tt)
    (λ _. if_known OpensNumber (is_numeric (c ∷ x)) (a_leaf (numeral_leaf (c ∷ x))) _
    (λ e. numeral_is_number (c ∷ x) e) (λ _. prefix_number d (unary c) x (c ∷ x))))))

pub opening_number : (d : ℕ) (x : List ℕ) → OpensNumber (opening d x)
opening_number d x = number_at d (skip_white x)
