-- Lists of keys with what stands at them: the elements of an array, the variables of a frame
-- (array(n)).
use Rattle.std.specs.Prelude.{ℕ, List, [], ◌∷◌, Option, Some, None, if◌then◌else◌, map}
use Rattle.std.specs.Str.{bytes_eq}

module _ {X : Type 0} where
  -- What stands at a key (array(n), array get).
  abbrev pub found : List (List ℕ × X) → List ℕ → Option X
  found [] key = None
  found (e ∷ es) key = if bytes_eq key e.0 then Some e.1 else found es key

  -- The list after something is put at a key: a key that is there keeps its place, and a new one
  -- goes last (this project's own rule).
  abbrev pub put : List (List ℕ × X) → List ℕ → X → List (List ℕ × X)
  put [] key x = (key, x) ∷ []
  put (e ∷ es) key x = if bytes_eq key e.0 then (e.0, x) ∷ es else e ∷ put es key x

  -- The list without a key, closed up (this project's own rule).
  abbrev pub without : List (List ℕ × X) → List ℕ → List (List ℕ × X)
  without [] key = []
  without (e ∷ es) key = if bytes_eq key e.0 then es else e ∷ without es key

  -- The keys, in order (array(n), array names).
  abbrev pub keys_of : List (List ℕ × X) → List (List ℕ)
  keys_of es = map (λ e. e.0) es
