-- Which names are no procedures, as their slots say.
use Rattle.std.specs.Prelude.{◌≡◌, ℕ, Bool, true, List, Some, IsSome, slice_get}
use Rattle.hints.specs.Slot.{slot}
use Rattle.tclstate.specs.Pairs.{found}
use Rattle.tclstate.specs.Procs.{Procs}

-- the slot of each procedure's name is marked (this project's own rule)
abbrev pub AreMarked : List Bool → Procs → Type 0
AreMarked slots procs = (name : List ℕ) → IsSome (found procs name) →
    slice_get slots (slot name) ≡ Some true
