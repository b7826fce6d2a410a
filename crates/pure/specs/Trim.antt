-- Texts without those bytes at their ends that are among given ones.
use Rattle.std.specs.Prelude.{ℕ, ◌-◌, ◌==◌, List, [], ◌∷◌, length, take, drop, Bool}
use Rattle.std.specs.List.{list_any, prefix_len, suffix_len}

-- the byte is one of these
abbrev pub is_among : List ℕ → ℕ → Bool
is_among bytes c = list_any (λ b. b == c) bytes

-- a text without the bytes in front that are among these (string(n), string trimleft)
abbrev pub trim_left : List ℕ → List ℕ → List ℕ
trim_left bytes x = drop (prefix_len (is_among bytes) x) x

-- a text without the bytes at the end that are among these (string(n), string trimright)
abbrev pub trim_right : List ℕ → List ℕ → List ℕ
trim_right bytes x = take (length x - suffix_len (is_among bytes) x) x

-- a text without the bytes at both its ends that are among these (string(n), string trim)
abbrev pub trim : List ℕ → List ℕ → List ℕ
trim bytes x = trim_right bytes (trim_left bytes x)

-- tab, newline, vertical tab, form feed, carriage return and blank (concat(n))
abbrev pub white : List ℕ
white = 9 ∷ 10 ∷ 11 ∷ 12 ∷ 13 ∷ 32 ∷ []
