-- What lrange does.
use Rattle.std.specs.Prelude.{ℕ, List, [], ◌∷◌, length, codes}
use Rattle.acts.specs.Flaw as flaw
use Rattle.meanings.specs.Meaning.{Meaning, Gives, Raises, Splits}
use Rattle.pure.specs.Place.{on_place, items_from}
use Rattle.tcltext.specs.Canonical.{canonical}

-- the list of the elements from one place up to and including another (lrange(n))
abbrev pub part : List ℕ → List ℕ → List (List ℕ) → Meaning
part first last elements =
    on_place (codes "lrange") first (length elements) (λ from.
    on_place (codes "lrange") last (length elements) (λ to.
    Gives (canonical (items_from elements from to))))

-- lrange l i j gives a part of a list (lrange(n))
abbrev pub lrange : List (List ℕ) → Meaning
lrange (l ∷ i ∷ j ∷ []) = Splits l (part i j)
lrange _ = Raises (flaw.WrongArgs (codes "lrange"))
