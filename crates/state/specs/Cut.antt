-- Answers that cut a run off: the world has no more answers, or one does not fit its act (this
-- project's own rule).
use Rattle.std.specs.Prelude.{◌≡◌, ◌⊎◌, true, false}
use Rattle.acts.specs.Deed.{Deed, Reply}
use Rattle.acts.specs.Fits.{fits}
use Rattle.plan.specs.Last.{IsOver}
use Rattle.plan.specs.Plan.{Ends}
use Rattle.state.specs.Dialogue.{Course, is_no_more}
use Rattle.state.specs.Outcome.{Outcome, Stop, Stops}
use Rattle.state.specs.Outcome as stop
use Rattle.state.specs.Status.{Status}

-- an answer that cuts the run off
abbrev pub CutsOff : Deed → Reply → Type 0
CutsOff act reply = (is_no_more reply ≡ true) ⊎ (fits act reply ≡ false)

-- the stops that such an answer causes
abbrev pub IsCut : Stop → Type 0
IsCut stop.BadAnswer = Unit {0}
IsCut stop.NoMore = Unit {0}
IsCut _ = ⊥

-- the outcome of a part that was cut off
abbrev pub WasCut : Outcome → Type 0
WasCut (Stops stop) = IsCut stop
WasCut _ = ⊥

-- a course that is over, since it was cut off
abbrev pub IsCutOff : Course → Type 0
IsCutOff c = IsOver (λ left. WasCut left.1) c

-- what follows a piece passes every stop on
abbrev pub PassesStops : (Status → Outcome → Course) → Type 0
PassesStops next =
    (s : Status) (stop : Stop) → (left : Status) × (next s (Stops stop) ≡ Ends (left, Stops stop))
