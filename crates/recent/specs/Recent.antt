-- Texts that are kept with what they were read as.
use Rattle.std.specs.Prelude.{ℕ, List, Option, Result, IfSome, Ok}
use Rattle.std.specs.List.{All}
use Rattle.recent.specs.declared.Read.{Read}

-- `Reads` says what may be had of a text that is read.
module _ {A T E : Type 0} (Reads : List ℕ → Result T E → Type 0) where
  -- the text may be read so
  abbrev pub IsRead : Read A T → Type 0
  IsRead read = Reads read.text.items (Ok read.tree)

  -- at each place there is no text, or one with what it may be read as (this project's own rule)
  abbrev pub AreRead : List (Option (Read A T)) → Type 0
  AreRead places = All (λ (p : Option (Read A T)). IfSome p IsRead) places
