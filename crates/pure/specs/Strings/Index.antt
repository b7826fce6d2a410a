-- What string index does.
use Rattle.std.specs.Prelude.{ℕ, List, [], ◌∷◌, length, codes, option_to_list}
use Rattle.acts.specs.Flaw as flaw
use Rattle.meanings.specs.Meaning.{Meaning, Gives, Raises}
use Rattle.pure.specs.Place.{on_place, item_at}

-- one of the bytes, or the empty text where the index lies outside (string(n), index)
abbrev pub byte_at : List ℕ → List ℕ → Meaning
byte_at s i =
    on_place (codes "string") i (length s) (λ place. Gives (option_to_list (item_at s place)))

-- string index s i gives a byte of a string (string(n), index)
abbrev pub index : List (List ℕ) → Meaning
index (s ∷ i ∷ []) = byte_at s i
index _ = Raises (flaw.WrongArgs (codes "string"))
