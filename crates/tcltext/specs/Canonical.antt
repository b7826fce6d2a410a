-- How a list is written (list(n); the spelling of an element that is not bare is this project's own
-- rule).
use Rattle.std.specs.Prelude.{◌≡◌, ℕ, ◌+◌, ◌-◌, ◌==◌, ◌&&◌, ◌||◌, not, List, [], ◌∷◌, ◌++◌, Bool, true, false, if◌then◌else◌}
use Rattle.std.specs.List.{list_any}
use Rattle.tcltext.specs.Elements.{IsList}
use Rattle.tcltext.specs.White.{is_white}

-- White and the bytes ; " $ [ ] { } \, which a bare element doesn't have (this project's own rule).
abbrev pub is_special : ℕ → Bool
is_special c =
    is_white c || ((c == 59) || ((c == 34) || ((c == 36) || ((c == 91) || ((c == 93) ||
    ((c == 123) || ((c == 125) || (c == 92))))))))

-- The first element begins with #, which would make a comment of a command (list(n)).
abbrev pub is_comment : Bool → List ℕ → Bool
is_comment first [] = false
is_comment first (c ∷ x) = first && (c == 35)

-- The element is empty.
abbrev pub is_empty : List ℕ → Bool
is_empty [] = true
is_empty (c ∷ x) = false

-- An element may stand as it is: it has a byte, begins no comment and has no special byte (this
-- project's own rule).
abbrev pub is_bare : Bool → List ℕ → Bool
is_bare first e = not (is_empty e) && (not (is_comment first e) && not (list_any is_special e))

-- With k braces open, the text closes each of them and each brace that it opens itself (Tcl(n),
-- rule 6).
abbrev pub pairs_up : ℕ → List ℕ → Bool
pairs_up k [] = k == 0
pairs_up k (c ∷ x) =
    if c == 123 then pairs_up (k + 1) x else
    (if c == 125 then not (k == 0) && pairs_up (k - 1) x else pairs_up k x)

-- An element may stand in braces: it has no backslash, and its braces pair up (this project's own
-- rule).
abbrev pub is_braceable : List ℕ → Bool
is_braceable e = not (list_any (λ c. c == 92) e) && pairs_up 0 e

-- The name of a byte after a backslash (Tcl(n), rule 9).
abbrev pub escape_name : ℕ → ℕ
escape_name c =
    if c == 9 then 116 else (if c == 10 then 110 else (if c == 11 then 118 else
    (if c == 12 then 102 else (if c == 13 then 114 else c))))

-- Each special byte after a backslash, under its name (this project's own rule).
abbrev pub escaped_bytes : List ℕ → List ℕ
escaped_bytes [] = []
escaped_bytes (c ∷ x) =
    if is_special c then 92 ∷ escape_name c ∷ escaped_bytes x else c ∷ escaped_bytes x

-- Bare where it can be, else in braces where it can be, else with backslashes (this project's own
-- rule).
abbrev pub written : Bool → List ℕ → List ℕ
written first e =
    if is_bare first e then e else (if is_braceable e then 123 ∷ (e ++ 125 ∷ []) else
    (if is_comment first e then 92 ∷ escaped_bytes e else escaped_bytes e))

-- The elements' spellings, each but the very first with a blank before it (list(n)).
abbrev pub joined : Bool → List (List ℕ) → List ℕ
joined first [] = []
joined first (e ∷ v) = (if first then [] else 32 ∷ []) ++ (written first e ++ joined false v)

-- The text of a list: its elements' spellings with a blank between them (list(n)).
abbrev pub canonical : List (List ℕ) → List ℕ
canonical v = joined true v

-- The text is that of some list (list(n)).
abbrev pub IsCanonical : List ℕ → Type 0
IsCanonical x = (v : List (List ℕ)) × (x ≡ canonical v)

-- The first text is a list, and the other is the canonical text of that list (Tcl_SplitList(3);
-- list(n)).
abbrev pub IsListOf : List ℕ → List ℕ → Type 0
IsListOf x y = (v : List (List ℕ)) × IsList v x × (y ≡ canonical v)
