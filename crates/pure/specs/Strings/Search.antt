-- What string first and string last do.
use Rattle.std.specs.Prelude.{ℕ, zero, suc, List, [], ◌∷◌, length, drop, nat_eq, find, codes, decimal, Bool, Option, Some, None}
use Rattle.std.specs.List.{starts_with, range_with_len}
use Rattle.acts.specs.Flaw as flaw
use Rattle.meanings.specs.Meaning.{Meaning, Gives, Raises}

-- a text stands in another from this place on (string(n), first)
abbrev pub stands_at : List ℕ → List ℕ → ℕ → Bool
stands_at needle text place = starts_with nat_eq (drop place text) needle

-- the places below n, the greatest first
abbrev pub places_down : ℕ → List ℕ
places_down zero = []
places_down (suc n) = n ∷ places_down n

-- the least place at which a text stands in another; the empty text stands nowhere
-- (string(n), first)
abbrev pub first_place : List ℕ → List ℕ → Option ℕ
first_place [] text = None
first_place (c ∷ needle) text = find (stands_at (c ∷ needle) text) (range_with_len 0 (length text))

-- the greatest place at which a text stands in another (string(n), last)
abbrev pub last_place : List ℕ → List ℕ → Option ℕ
last_place [] text = None
last_place (c ∷ needle) text = find (stands_at (c ∷ needle) text) (places_down (length text))

-- the text of a place, or of -1 where there is none (string(n), first)
abbrev pub told : Option ℕ → List ℕ
told None = codes "-1"
told (Some place) = decimal place

-- string first needle s (string(n), first)
abbrev pub first : List (List ℕ) → Meaning
first (needle ∷ s ∷ []) = Gives (told (first_place needle s))
first _ = Raises (flaw.WrongArgs (codes "string"))

-- string last needle s (string(n), last)
abbrev pub last : List (List ℕ) → Meaning
last (needle ∷ s ∷ []) = Gives (told (last_place needle s))
last _ = Raises (flaw.WrongArgs (codes "string"))
