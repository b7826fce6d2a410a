-- A number without a sign, and then a blank, is read as that numeral.
use Rattle.std.proofs.Common.{◌≡◌, ℕ, ◌≤◌, ◌==◌, List, [], ◌∷◌, ◌++◌, length, take, drop, true, false, refl, sym, ap, ◌∙◌, arith, rules}
use Rattle.std.proofs.lemmas.Bool.Decides.{nat_tests}
use Rattle.std.proofs.Math.Seq.{take-append_seam, drop-append_seam}
use Rattle.tcltext.specs.Digit.{is_digit}
use Rattle.tcltext.specs.White.{is_white}
use Rattle.tcltext.specs.Numeral.{AreDigits, IsUnsigned, decimal, octal, marked_hexadecimal, marked_octal, marked_binary}
use Rattle.tclparse.specs.FormulaPiece.{a_numeral, a_leaf, digit_count, begins_marked, numeral_length, numeral_leaf, opening}
use Rattle.formulas.proofs.PartTexts.{not_same}

all_digits : (base c : ℕ) (ds : List ℕ) → AreDigits base (c ∷ ds) → (is_digit base c ≡ true)
    × AreDigits base ds
all_digits base c ds h = (grind (arith, h), grind (arith, h))

blank_is_none : (base : ℕ) → base ≤ 16 → is_digit base 32 ≡ false
blank_is_none base h = search (rules, nat_tests)

digits_counted : (base : ℕ) (ds y : List ℕ) → base ≤ 16 → AreDigits base ds →
    digit_count base (ds ++ 32 ∷ y) ≡ length ds
digits_counted base [] y small h = let none = blank_is_none base small in rw none refl
digits_counted base (c ∷ ds) y small h =
    let k = all_digits base c ds h in rw (k.0, digits_counted base ds y small k.1) (omega arith)

not_marked : (mark base c : ℕ) (x : List ℕ) → (c == 48) ≡ false →
    begins_marked mark base (c ∷ x) ≡ false
not_marked mark base c [] h = refl
not_marked mark base c (b ∷ []) h = refl
not_marked mark base c (b ∷ a ∷ x) h = rw h refl

other_mark : (mark base c : ℕ) (x : List ℕ) → (c == mark) ≡ false →
    begins_marked mark base (48 ∷ c ∷ x) ≡ false
other_mark mark base c [] h = refl
other_mark mark base c (a ∷ x) h = rw h refl

-- the bytes after a 0 begin with none of the marks
abbrev IsUnmarked : List ℕ → Type 0
IsUnmarked x =
    (begins_marked 120 16 (48 ∷ x) ≡ false) × (begins_marked 111 8 (48 ∷ x) ≡ false)
    × (begins_marked 98 2 (48 ∷ x) ≡ false)

octal_unmarked : (ds y : List ℕ) → AreDigits 8 ds → IsUnmarked (ds ++ 32 ∷ y)
octal_unmarked [] y h =
    (other_mark 120 16 32 y refl, other_mark 111 8 32 y refl, other_mark 98 2 32 y refl)
octal_unmarked (c ∷ ds) y h =
    let k = all_digits 8 c ds h in (
      other_mark 120 16 c (ds ++ 32 ∷ y) (not_same (is_digit 8) c 120 k.0 refl),
      other_mark 111 8 c (ds ++ 32 ∷ y) (not_same (is_digit 8) c 111 k.0 refl),
      other_mark 98 2 c (ds ++ 32 ∷ y) (not_same (is_digit 8) c 98 k.0 refl),
    )

octal_length : (ds y : List ℕ) → AreDigits 8 ds →
    numeral_length ((48 ∷ ds) ++ 32 ∷ y) ≡ length (48 ∷ ds)
octal_length ds y h =
    let k = octal_unmarked ds y h in
    rw (k.0, k.1, k.2, digits_counted 8 ds y (omega arith) h) (omega arith)

decimal_length : (c : ℕ) (ds y : List ℕ) → AreDigits 10 (c ∷ ds) → (c == 48) ≡ false →
    numeral_length ((c ∷ ds) ++ 32 ∷ y) ≡ length (c ∷ ds)
decimal_length c ds y h begins =
    let k = all_digits 10 c ds h in
    let x = ds ++ 32 ∷ y in
    rw (
      not_marked 120 16 c x begins,
      not_marked 111 8 c x begins,
      not_marked 98 2 c x begins,
      begins,
      k.0,
      digits_counted 10 ds y (omega arith) k.1,
    ) (omega arith)

hexadecimal_length : (c : ℕ) (ds y : List ℕ) → AreDigits 16 (c ∷ ds) →
    numeral_length ((48 ∷ 120 ∷ c ∷ ds) ++ 32 ∷ y) ≡ length (48 ∷ 120 ∷ c ∷ ds)
hexadecimal_length c ds y h =
    let k = all_digits 16 c ds h in rw (k.0, digits_counted 16 ds y (omega arith) k.1) (omega arith)

marked_octal_length : (c : ℕ) (ds y : List ℕ) → AreDigits 8 (c ∷ ds) →
    numeral_length ((48 ∷ 111 ∷ c ∷ ds) ++ 32 ∷ y) ≡ length (48 ∷ 111 ∷ c ∷ ds)
marked_octal_length c ds y h =
    let k = all_digits 8 c ds h in rw (k.0, digits_counted 8 ds y (omega arith) k.1) (omega arith)

binary_length : (c : ℕ) (ds y : List ℕ) → AreDigits 2 (c ∷ ds) →
    numeral_length ((48 ∷ 98 ∷ c ∷ ds) ++ 32 ∷ y) ≡ length (48 ∷ 98 ∷ c ∷ ds)
binary_length c ds y h =
    let k = all_digits 2 c ds h in rw (k.0, digits_counted 2 ds y (omega arith) k.1) (omega arith)

-- a numeral's first byte is a decimal digit, and its length is that of the numeral at the front
abbrev IsTaken : List ℕ → List ℕ → Type 0
IsTaken s y =
    (c : ℕ) × (x : List ℕ) × (s ≡ c ∷ x) × (is_digit 10 c ≡ true)
    × (numeral_length (s ++ 32 ∷ y) ≡ length s)

unsigned_taken : (m : ℕ) (s y : List ℕ) → IsUnsigned m s → IsTaken s y
unsigned_taken _ _ y (decimal [] h some begins) = absurd (omega (arith, some))
unsigned_taken _ _ y (decimal (c ∷ ds) h some begins) =
    (c, ds, refl, (all_digits 10 c ds h).0, decimal_length c ds y h begins)
unsigned_taken _ _ y (octal ds h) = (48, ds, refl, refl, octal_length ds y h)
unsigned_taken _ _ y (marked_hexadecimal [] h some) = absurd (omega (arith, some))
unsigned_taken _ _ y (marked_hexadecimal (c ∷ ds) h some) =
    (48, 120 ∷ c ∷ ds, refl, refl, hexadecimal_length c ds y h)
unsigned_taken _ _ y (marked_octal [] h some) = absurd (omega (arith, some))
unsigned_taken _ _ y (marked_octal (c ∷ ds) h some) =
    (48, 111 ∷ c ∷ ds, refl, refl, marked_octal_length c ds y h)
unsigned_taken _ _ y (marked_binary [] h some) = absurd (omega (arith, some))
unsigned_taken _ _ y (marked_binary (c ∷ ds) h some) =
    (48, 98 ∷ c ∷ ds, refl, refl, binary_length c ds y h)

-- white is no digit
digit_is_dark : (c : ℕ) → is_digit 10 c ≡ true → is_white c ≡ false
digit_is_dark c h =
    let blank = not_same (is_digit 10) c 32 h refl in
    let a = not_same (is_digit 10) c 9 h refl in
    let b = not_same (is_digit 10) c 10 h refl in
    let d = not_same (is_digit 10) c 11 h refl in
    let e = not_same (is_digit 10) c 12 h refl in
    let f = not_same (is_digit 10) c 13 h refl in
    grind (arith, nat_tests)

digit_opening : (d c : ℕ) (x : List ℕ) → is_digit 10 c ≡ true →
    opening d (c ∷ x) ≡ a_leaf (numeral_leaf (c ∷ x))
digit_opening d c x h =
    let dark = digit_is_dark c h in
    let quote = not_same (is_digit 10) c 34 h refl in
    let brace = not_same (is_digit 10) c 123 h refl in
    let dollar = not_same (is_digit 10) c 36 h refl in
    let bracket = not_same (is_digit 10) c 91 h refl in
    let parenthesis = not_same (is_digit 10) c 40 h refl in
    rw (dark, quote, brace, dollar, bracket, parenthesis, h) refl

leaf_is : (s z : List ℕ) → numeral_length (s ++ z) ≡ length s → numeral_leaf (s ++ z)
    ≡ a_numeral s z
leaf_is s z h =
    ap (λ n. a_numeral (take n (s ++ z)) (drop n (s ++ z))) h
    ∙ ap (λ t. a_numeral t (drop (length s) (s ++ z))) (take-append_seam s z)
    ∙ ap (λ u. a_numeral s u) (drop-append_seam s z)

taken_opening : (d : ℕ) (s y : List ℕ) → IsTaken s y → opening d (s ++ 32 ∷ y)
    ≡ a_leaf (a_numeral s (32 ∷ y))
taken_opening d s y k =
    ap (λ x. opening d (x ++ 32 ∷ y)) k.2 ∙ digit_opening d k.0 (k.1 ++ 32 ∷ y) k.3
    ∙ ap (λ x. a_leaf (numeral_leaf (x ++ 32 ∷ y))) (sym k.2) ∙ ap a_leaf (leaf_is s (32 ∷ y) k.4)

pub numeral_opening : (d m : ℕ) (s y : List ℕ) → IsUnsigned m s → opening d (s ++ 32 ∷ y)
    ≡ a_leaf (a_numeral s (32 ∷ y))
numeral_opening d m s y h = taken_opening d s y (unsigned_taken m s y h)
