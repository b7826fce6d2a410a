-- Whether a text is an element of a list.
use Rattle.std.specs.Prelude.{◌≡◌, ℕ, List, Bool, not}
use Rattle.std.specs.List.{list_any}
use Rattle.std.specs.Str.{bytes_eq}
use Rattle.meanings.specs.Meaning.{Meaning, Gives, Splits, truth}
use Rattle.tcltext.specs.Elements.{IsList}

-- some element has the bytes of the text (expr(n), in)
abbrev pub contains : List ℕ → List (List ℕ) → Bool
contains text elements = list_any (λ element. bytes_eq element text) elements

-- the text is in the list that another one spells (expr(n), in)
abbrev pub is_in : List ℕ → List ℕ → Meaning
is_in text list = Splits list (λ elements. Gives (truth (contains text elements)))

-- the text is not in the list that another one spells (expr(n), ni)
abbrev pub is_not_in : List ℕ → List ℕ → Meaning
is_not_in text list = Splits list (λ elements. Gives (truth (not (contains text elements))))

-- whether the text was found in the list that another one spells (expr(n), in)
abbrev pub IsFound : List ℕ → List ℕ → Bool → Type 0
IsFound text list found =
    (elements : List (List ℕ)) × IsList elements list × (found ≡ contains text elements)
