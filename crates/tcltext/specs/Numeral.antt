-- Which whole number a text is (expr(n), operands; Tcl_GetInt(3)).
use Rattle.std.specs.Prelude.{◌≡◌, ℕ, ◌+◌, ◌-◌, ◌*◌, ◌^◌, ◌<◌, ◌==◌, List, [], ◌∷◌, ◌++◌, length, Bool, true, false, ◌⊎◌, ℤ, pos, neg_ℤ, ◌≤ℤ◌}
use Rattle.std.specs.List.{list_all}
use Rattle.tcltext.specs.Digit.{digit_value, is_digit}
use Rattle.tcltext.specs.White.{skip_white}

-- The number n with these digits of a base after it (expr(n), operands).
abbrev pub with_digits : ℕ → ℕ → List ℕ → ℕ
with_digits base n [] = n
with_digits base n (c ∷ x) = with_digits base (base * n + digit_value c) x

-- The number that these digits of a base make (expr(n), operands).
abbrev pub number_of : ℕ → List ℕ → ℕ
number_of base ds = with_digits base 0 ds

-- All are digits of the base (expr(n), operands).
abbrev pub AreDigits : ℕ → List ℕ → Type 0
AreDigits base ds = list_all (is_digit base) ds ≡ true

-- The first digit is a 0 (expr(n), operands).
abbrev pub begins_zero : List ℕ → Bool
begins_zero [] = false
begins_zero (c ∷ x) = c == 48

-- How a number without a sign is spelled: in decimal digits that begin with no 0; as a 0 with octal
-- digits after it, or with none; in digits after 0x, 0o or 0b (expr(n), operands).
pub data IsUnsigned : ℕ → List ℕ → Type 0 where
  decimal : (ds : List ℕ) → AreDigits 10 ds → 0 < length ds → begins_zero ds ≡ false
      → IsUnsigned (number_of 10 ds) ds
  octal : (ds : List ℕ) → AreDigits 8 ds → IsUnsigned (number_of 8 ds) (48 ∷ ds)
  marked_hexadecimal : (ds : List ℕ) → AreDigits 16 ds → 0 < length ds
      → IsUnsigned (number_of 16 ds) (48 ∷ 120 ∷ ds)
  marked_octal : (ds : List ℕ) → AreDigits 8 ds → 0 < length ds
      → IsUnsigned (number_of 8 ds) (48 ∷ 111 ∷ ds)
  marked_binary : (ds : List ℕ) → AreDigits 2 ds → 0 < length ds
      → IsUnsigned (number_of 2 ds) (48 ∷ 98 ∷ ds)

-- With the sign s the number m becomes n: no sign or + keeps m, - negates it (expr(n), operands).
abbrev pub IsSigned : List ℕ → ℕ → ℤ → Type 0
IsSigned s m n = (((s ≡ []) ⊎ (s ≡ 43 ∷ [])) × (n ≡ pos m)) ⊎ ((s ≡ 45 ∷ []) × (n ≡ neg_ℤ (pos m)))

-- Nothing but white (Tcl_GetInt(3)).
abbrev pub IsWhite : List ℕ → Type 0
IsWhite x = skip_white x ≡ []

-- The text is a numeral for n, however large: white, a sign or none, a number without a sign, white
-- (Tcl_GetInt(3)).
abbrev pub IsNumeral : ℤ → List ℕ → Type 0
IsNumeral n x =
    (w s d u : List ℕ) × (m : ℕ) × (x ≡ w ++ (s ++ (d ++ u))) × IsWhite w × IsWhite u
    × IsUnsigned m d × IsSigned s m n

-- A number is in range where 64 bits hold it (expr(n), operands).
abbrev pub IsInRange : ℤ → Type 0
IsInRange n = (neg_ℤ (pos (2 ^ 63)) ≤ℤ n) × (n ≤ℤ pos (2 ^ 63 - 1))
