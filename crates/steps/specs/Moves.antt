-- What the instructions of all kinds have in common.
use Rattle.std.specs.Prelude.{ℕ, zero, suc, List, [], ◌∷◌, nat_le, reverse, take, if◌then◌else◌}
use Rattle.state.specs.Outcome as stop
use Rattle.state.specs.Prelude.{Stops, Status}
use Rattle.steps.specs.Spot.{Spot, Did, Over, Stuck, Went}

-- takes a tick, where one is left; else the run stops (this project's own rule)
abbrev pub ticked : ℕ → Status → (Status → Did) → Did
ticked zero s next = Over (Stops stop.Limit) s
ticked (suc left) s next = next (record s { left = left })

-- what is done with the first of these and with those after it, where there is one (this project's
-- own rule)
abbrev pub on_top : {X : Type 0} → List X → (X → List X → Did) → Did
on_top [] next = Stuck
on_top (x ∷ below) next = next x below

-- the same with these operands (this project's own rule)
abbrev pub with_operands : List (List ℕ) → Spot → Spot
with_operands operands spot = record spot { operands = operands }

-- the lowest ones of these, which are this many (this project's own rule)
abbrev pub lowest : {X : Type 0} → ℕ → List X → List X
lowest n xs = reverse (take n (reverse xs))

-- this place is next; there is no way back (this project's own rule)
abbrev pub jumping : ℕ → Spot → Status → Did
jumping place spot s =
    if nat_le spot.place place then Went (record spot { place = place }) s else Stuck
