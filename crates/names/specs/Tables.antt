-- A table of names, and what it gives for a name.
use Rattle.std.specs.Prelude.{ℕ, List, [], ◌∷◌, length, nat_eq, Option, Some, None, if◌then◌else◌}
use Rattle.std.specs.List.{filter}
use Rattle.std.specs.Str.{bytes_eq}

-- a table: each row has a name and what it stands for
abbrev pub Table : Type 0 → Type 0
Table X = List (List ℕ × X)

-- what a name stands for: the first row that has it
abbrev pub found : {X : Type 0} → Table X → List ℕ → Option X
found [] name = None
found (row ∷ rows) name = if bytes_eq name row.0 then Some row.1 else found rows name

-- the rows whose names have this length
abbrev pub so_long : {X : Type 0} → ℕ → Table X → Table X
so_long size rows = filter (λ row. nat_eq (length row.0) size) rows
