-- What lindex does.
use Rattle.std.specs.Prelude.{ℕ, List, [], ◌∷◌, length, codes, unwrap_or}
use Rattle.acts.specs.Flaw as flaw
use Rattle.meanings.specs.Meaning.{Meaning, Gives, Raises, Splits}
use Rattle.pure.specs.Place.{on_place, item_at}

-- one of the elements, or the empty text where the index lies outside (lindex(n))
abbrev pub element : List ℕ → List (List ℕ) → Meaning
element index elements =
    on_place (codes "lindex") index (length elements)
    (λ place. Gives (unwrap_or (item_at elements place) []))

-- the list as it stands, whatever its elements (lindex(n))
abbrev pub as_it_stands : List ℕ → List (List ℕ) → Meaning
as_it_stands l elements = Gives l

-- lindex l ?i? gives an element of a list; without an index the list as it stands (lindex(n))
abbrev pub lindex : List (List ℕ) → Meaning
lindex (l ∷ []) = Splits l (as_it_stands l)
lindex (l ∷ i ∷ []) = Splits l (element i)
lindex _ = Raises (flaw.WrongArgs (codes "lindex"))
