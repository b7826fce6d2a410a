-- How the text of a pattern is read.
use Rattle.std.specs.Prelude.{ℕ, ◌-◌, ◌==◌, ◌&&◌, nat_le, min, max, Bool, true, false, List, [], ◌∷◌, ◌++◌, length, map, take, filter, if◌then◌else◌}
use Rattle.std.specs.List.{list_any, range_with_len}
use Rattle.patterns.specs.Item.{Item, literal, any_byte, one_of, any_run, Reading}

-- The ranges of a set's text, from left to right; a `-` in no range is a byte like any other
-- (string(n), match; in detail this project's own rule).
abbrev pub ranges : List ℕ → List (ℕ × ℕ)
ranges [] = []
ranges (x ∷ []) = (x, x) ∷ []
ranges (x ∷ d ∷ []) = (x, x) ∷ (d, d) ∷ []
ranges (x ∷ d ∷ y ∷ rest) =
    if d == 45 then (x, y) ∷ ranges rest else (x, x) ∷ ranges (d ∷ y ∷ rest)

-- Whether b lies in a range, whose ends stand in either order (this project's own rule).
abbrev pub is_within : ℕ → ℕ × ℕ → Bool
is_within b r = nat_le (min r.0 r.1) b && nat_le b (max r.0 r.1)

-- Whether b lies in one of the ranges (string(n), match).
abbrev pub is_in_ranges : List (ℕ × ℕ) → ℕ → Bool
is_in_ranges rs b = list_any (is_within b) rs

-- Each byte, by rising value (this project's own rule).
unfoldable pub all_bytes : List ℕ
all_bytes = range_with_len 0 256

-- The bytes of the set with this text (string(n), match).
abbrev pub set_bytes : List ℕ → List ℕ
set_bytes text = filter (is_in_ranges (ranges text)) all_bytes

-- What stands next in a text: a byte, a byte after a backslash, or the text of a set
-- (string(n), match).
pub data Sign : Type 0 where
  bare : ℕ → Sign
  quoted : ℕ → Sign
  a_set : List ℕ → Sign

-- The signs of a text from left to right; a last backslash is itself, the first `]` closes a set,
-- and so does the end (string(n), match; in detail this project's own rule).
abbrev mutual
  pub signs : List ℕ → List Sign
  signs [] = []
  signs (b ∷ t) =
      if b == 92 then signs_behind_backslash t else
      (if b == 91 then signs_in_set [] t else bare b ∷ signs t)

  pub signs_behind_backslash : List ℕ → List Sign
  signs_behind_backslash [] = bare 92 ∷ []
  signs_behind_backslash (c ∷ t) = quoted c ∷ signs t

  pub signs_in_set : List ℕ → List ℕ → List Sign
  signs_in_set so_far [] = a_set so_far ∷ []
  signs_in_set so_far (c ∷ t) =
      if c == 93 then a_set so_far ∷ signs t else signs_in_set (so_far ++ c ∷ []) t

-- The item of a sign: `*` and `?` are special where they are bare (string(n), match).
abbrev pub item_of : Sign → Item
item_of (bare b) = if b == 42 then any_run else (if b == 63 then any_byte else literal b)
item_of (quoted c) = literal c
item_of (a_set text) = one_of (set_bytes text)

-- The sign is a bare `$` (expect(1), expect).
abbrev pub is_dollar : Sign → Bool
is_dollar (bare b) = b == 36
is_dollar (quoted c) = false
is_dollar (a_set text) = false

-- Whether the last sign is a bare `$` (expect(1), expect).
abbrev pub ends_in_dollar : List Sign → Bool
ends_in_dollar [] = false
ends_in_dollar (s ∷ []) = is_dollar s
ends_in_dollar (s ∷ t ∷ ss) = ends_in_dollar (t ∷ ss)

-- Whether a text begins with `^` (expect(1), expect).
abbrev pub begins_in_caret : List ℕ → Bool
begins_in_caret [] = false
begins_in_caret (b ∷ t) = b == 94

-- A text without a `^` at its beginning (expect(1), expect).
abbrev pub after_caret : List ℕ → List ℕ
after_caret [] = []
after_caret (b ∷ t) = if b == 94 then t else b ∷ t

-- The signs without a bare `$` at their end (expect(1), expect).
abbrev pub before_dollar : List Sign → List Sign
before_dollar all = if ends_in_dollar all then take (length all - 1) all else all

-- A glob of expect: `^` as first byte and `$` as last item tie it and are no items (expect(1),
-- expect; in detail this project's own rule).
abbrev pub glob : List ℕ → Reading
glob text =
    let all = signs (after_caret text) in
    record {
      items = map item_of (before_dollar all);
      at_start = begins_in_caret text;
      at_end = ends_in_dollar all;
      folds = false;
    }

-- The pattern of these items alone (this project's own rule).
abbrev pub tied_nowhere : List Item → Reading
tied_nowhere items = record { items = items; at_start = false; at_end = false; folds = false }

-- A glob of string match: it is tied nowhere, and `^` and `$` are bytes like any other (string(n),
-- match).
abbrev pub plain : List ℕ → Reading
plain text = tied_nowhere (map item_of (signs text))

-- An exact pattern: its items are its bytes (expect(1), expect -ex).
abbrev pub exact : List ℕ → Reading
exact text = tied_nowhere (map literal text)

-- The pattern with the window's letters folded; its items stay (expect(1), -nocase).
abbrev pub folded : Reading → Reading
folded p = record { items = p.items; at_start = p.at_start; at_end = p.at_end; folds = true }
