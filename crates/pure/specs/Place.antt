-- The places that index words name in lists and strings.
use Rattle.std.specs.Prelude.{ℕ, ◌==◌, nat_lt, List, [], ◌∷◌, take, drop, slice_get, slice_range, codes, Option, Some, None, option_map, ℤ, pos, negsuc, ◌+ℤ◌, ◌-ℤ◌, if◌then◌else◌}
use Rattle.std.specs.Str.{bytes_eq}
use Rattle.acts.specs.Flaw as flaw
use Rattle.meanings.specs.Meaning.{Meaning, Raises}
use Rattle.tcltext.specs.Numbers.{numeral, is_number}

-- the whole number that a text spells, if 64 bits hold it (expr(n), operands)
abbrev pub whole_of : List ℕ → Option ℤ
whole_of x = if is_number x then numeral x else None

-- the place of the last of n elements (string(n), string index)
abbrev pub last_of : ℕ → ℤ
last_of n = pos n -ℤ pos 1

-- the place that `end` with this text after it names: the last one, or the one that precedes the
-- last one by the number after `-` (string(n), string index)
abbrev pub behind_end : ℕ → List ℕ → Option ℤ
behind_end n [] = Some (last_of n)
behind_end n (c ∷ x) =
    if c == 45 then option_map (λ k. last_of n -ℤ k) (whole_of x) else None

-- the place that an index word names among n elements, which may lie before or after them all; no
-- other word than a number, `end` and `end-` with a number is an index (string(n), string index)
abbrev pub place_of : List ℕ → ℕ → Option ℤ
place_of word n =
    if bytes_eq (take 3 word) (codes "end") then behind_end n (drop 3 word) else whole_of word

-- what follows a place, if there is one; else the error that the command does not accept the word
-- (string(n))
abbrev pub placed : Option ℤ → List ℕ → List ℕ → (ℤ → Meaning) → Meaning
placed (Some place) command word next = next place
placed None command word next = Raises (flaw.BadArgument word command)

-- what follows the place that a word of a command names among n elements (string(n), string index)
abbrev pub on_place : List ℕ → List ℕ → ℕ → (ℤ → Meaning) → Meaning
on_place command word n next = placed (place_of word n) command word next

-- a place as the index of one of n elements, if it is one (lindex(n))
abbrev pub within : ℤ → ℕ → Option ℕ
within (pos k) n = if nat_lt k n then Some k else None
within (negsuc k) n = None

-- the item at a place, if there is one (lindex(n); string(n), string index)
abbrev pub item_at : {X : Type 0} → List X → ℤ → Option X
item_at items (pos n) = slice_get items n
item_at items (negsuc n) = None

-- a place, or 0 for one before the first
abbrev pub natural : ℤ → ℕ
natural (pos n) = n
natural (negsuc n) = 0

-- the items from one place up to and including another, as far as there are any (lrange(n);
-- string(n), string range)
abbrev pub items_from : {X : Type 0} → List X → ℤ → ℤ → List X
items_from items first last = slice_range items (natural first) (natural (last +ℤ pos 1))
