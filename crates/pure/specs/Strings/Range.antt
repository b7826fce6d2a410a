-- What string range does.
use Rattle.std.specs.Prelude.{ℕ, List, [], ◌∷◌, length, codes}
use Rattle.acts.specs.Flaw as flaw
use Rattle.meanings.specs.Meaning.{Meaning, Gives, Raises}
use Rattle.pure.specs.Place.{on_place, items_from}

-- the bytes from one place up to and including another (string(n), range)
abbrev pub part : List ℕ → List ℕ → List ℕ → Meaning
part s first last =
    on_place (codes "string") first (length s) (λ from.
    on_place (codes "string") last (length s) (λ to. Gives (items_from s from to)))

-- string range s i j gives a part of a string (string(n), range)
abbrev pub range : List (List ℕ) → Meaning
range (s ∷ i ∷ j ∷ []) = part s i j
range _ = Raises (flaw.WrongArgs (codes "string"))
