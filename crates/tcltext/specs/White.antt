-- White space in lists and numerals.
use Rattle.std.specs.Prelude.{ℕ, nat_le, ◌==◌, ◌&&◌, ◌||◌, List, [], ◌∷◌, Bool, true, if◌then◌else◌}

-- Blank, tab, newline, vertical tab, form feed or carriage return (Tcl(n), rule 3; string(n), is
-- space, for ASCII alone).
abbrev pub is_white : ℕ → Bool
is_white c = (c == 32) || (nat_le 9 c && nat_le c 13)

-- The text after the white space at its front (Tcl_SplitList(3)).
abbrev pub skip_white : List ℕ → List ℕ
skip_white [] = []
skip_white (c ∷ x) = if is_white c then skip_white x else (c ∷ x)

-- An element ends where white follows, or nothing (Tcl_SplitList(3)).
abbrev pub ends_element : List ℕ → Bool
ends_element [] = true
ends_element (c ∷ x) = is_white c
