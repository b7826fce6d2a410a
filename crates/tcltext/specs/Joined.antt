-- Texts one after the other, with a separator between them.
use Rattle.std.specs.Prelude.{ℕ, List, [], ◌∷◌, ◌++◌, Bool, true, false, if◌then◌else◌}

-- the texts, each but the very first with the separator before it (join(n))
abbrev pub separated : Bool → List ℕ → List (List ℕ) → List ℕ
separated first separator [] = []
separated first separator (x ∷ xs) =
    (if first then [] else separator) ++ (x ++ separated false separator xs)

-- the texts with the separator between them (join(n))
abbrev pub joined : List ℕ → List (List ℕ) → List ℕ
joined separator texts = separated true separator texts
