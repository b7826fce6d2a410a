-- How texts are spelled so that Tcl reads them back (Tcl(n), rules 4 and 9).
use Rattle.std.specs.Prelude.{ℕ, ◌-◌, ◌/◌, ◌%◌, ◌==◌, ◌&&◌, ◌||◌, nat_le, Bool, List, [], ◌∷◌, ◌++◌, length, take, drop, flat_map, slice_index, Option, Some, None, codes, decimal, if◌then◌else◌}

-- the name of a byte after a backslash, where it has one: n, r, t for a newline, a return and a
-- tab; itself where it would end the text in quotes or have a meaning there, as " \ $ [
abbrev pub name_of : ℕ → Option ℕ
name_of b =
    if b == 10 then Some 110 else (if b == 13 then Some 114 else (if b == 9 then Some 116 else
    (if (b == 34) || ((b == 92) || ((b == 36) || (b == 91))) then Some b else None)))

-- a byte that ASCII prints
abbrev pub is_printable : ℕ → Bool
is_printable b = nat_le 32 b && nat_le b 126

-- the digit of a value below 16
abbrev pub digit_of : ℕ → ℕ
digit_of n = slice_index (codes "0123456789abcdef") n

-- a byte by its number, in two digits
abbrev pub numbered : ℕ → List ℕ
numbered b = codes "\\x" ++ digit_of (b / 16) ∷ digit_of (b % 16) ∷ []

-- a byte by its name, where it has one; or as it is, or by its number
abbrev pub spelled_by : Option ℕ → ℕ → List ℕ
spelled_by (Some name) b = 92 ∷ name ∷ []
spelled_by None b = if is_printable b then b ∷ [] else numbered b

-- a byte within double quotes
abbrev pub spelled_byte : ℕ → List ℕ
spelled_byte b = spelled_by (name_of b) b

-- a text in double quotes
abbrev pub spelled : List ℕ → List ℕ
spelled text = 34 ∷ (flat_map spelled_byte text ++ 34 ∷ [])

-- a text of at most `most` bytes; and of a longer one three quarters of `most` from its beginning,
-- a quarter from its end, and its length
abbrev pub shortened : ℕ → List ℕ → List ℕ
shortened most text =
    if nat_le (length text) most then spelled text else
    (spelled (take (most - most / 4) text) ++ (codes " .. "
    ++ (spelled (drop (length text - most / 4) text)
    ++ (codes " (" ++ (decimal (length text) ++ codes " bytes)")))))
