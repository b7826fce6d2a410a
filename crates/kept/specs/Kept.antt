-- The texts of the scripts that are kept, and the scripts that are kept under them.
use Rattle.std.specs.Prelude.{ℕ, ◌==◌, nat_lt, Bool, List, [], ◌∷◌, ◌++◌, length, map, drop, if◌then◌else◌}
use Rattle.std.specs.List.{list_any, All}
use Rattle.std.specs.Str.{bytes_eq}
use Rattle.std.specs.declared.vec.Vec.{Vec}
use Rattle.tclparse.specs.ScriptTree.{ScriptTree}
use Rattle.tclparse.specs.Grammar.{IsScript}

-- The text is one of these (this project's own rule).
abbrev pub is_among : List ℕ → List (List ℕ) → Bool
is_among text texts = list_any (bytes_eq text) texts

-- The texts with a new one after them: where there are 256, the oldest goes out first (this
-- project's own rule).
abbrev pub with_newest : List ℕ → List (List ℕ) → List (List ℕ)
with_newest text texts = (if length texts == 256 then drop 1 texts else texts) ++ text ∷ []

-- What is left of these once the oldest goes out where there are more than 256 (this project's own
-- rule).
abbrev pub newest : {X : Type 0} → List X → List X
newest xs = if nat_lt 256 (length xs) then drop 1 xs else xs

-- The texts once this one is kept: one that is there changes nothing (this project's own rule).
abbrev pub with_text : List ℕ → List (List ℕ) → List (List ℕ)
with_text text texts = if is_among text texts then texts else with_newest text texts

-- The text's script (Tcl(n)).
abbrev pub IsTree : ScriptTree → List ℕ → Type 0
IsTree script text = IsScript script.commands script.fault text

-- A map's entries: texts, and what is kept under them.
abbrev pub Entries : Type 0 → Type 0
Entries A = List (Vec ℕ A × ScriptTree)

-- The texts of a map's entries, in order.
abbrev pub texts_of : {A : Type 0} → Entries A → List (List ℕ)
texts_of es = map (λ e. e.0.items) es

-- Each entry is a text and its script.
abbrev pub AreTrees : {A : Type 0} → Entries A → Type 0
AreTrees {A} es = All (λ (e : Vec ℕ A × ScriptTree). IsTree e.1 e.0.items) es
