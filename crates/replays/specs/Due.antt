-- Which acts an entry of a record answers (this project's own rule).
use Rattle.std.specs.Prelude.{◌≡◌, List, Option, Some, None}
use Rattle.acts.specs.declared.row.Row.{Row}
use Rattle.acts.specs.Deed.{Deed}
use Rattle.acts.specs.Deed as said

-- an entry with rows answers a wait for these rows, and an entry without rows any act
abbrev pub IsDue : Option (List Row) → Deed → Type 0
IsDue None act = Unit {0}
IsDue (Some told) (said.Wait rows timer) = told ≡ rows
IsDue (Some told) _ = ⊥
