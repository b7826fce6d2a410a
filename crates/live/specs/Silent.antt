-- Which links are known to be silent.
use Rattle.std.specs.Prelude.{◌≡◌, ◌%◌, ℕ, List, Option, Some, slice_get}
use Rattle.acts.specs.declared.id.Id.{Id}

-- the place of an id among 64, by its number counted round (this project's own)
abbrev pub place : Id → ℕ
place id = id.0 % 64

-- the link of an id is known to be silent (this project's own)
abbrev pub IsSilent : List (Option Id) → Id → Type 0
IsSilent ids id = slice_get ids (place id) ≡ Some (Some id)
