-- What a session gives.
use Rattle.std.specs.Prelude.{◌≡◌, List, ℕ}
use Rattle.state.specs.Prelude.{deed_of}
use Rattle.acts.specs.History.{History}
use Rattle.acts.specs.declared.act.Act.{Act}
use Rattle.machine.specs.declared.phase.Phase.{Phase}
use Rattle.machine.specs.declared.phase.Phase.TheVariants as phase
use Rattle.engine.specs.declared.session.Step.{Step}
use Rattle.engine.specs.declared.session.Step.TheVariants as step
use Rattle.engine.specs.Session.{AsksFirst, EndsSo}
use Rattle.machine.specs.View.{ending_of}

-- this act is asked
abbrev pub AsksFor : {A : Type 0} → Phase A → Act A → Type 0
AsksFor (phase.Asks own waits) act = own ≡ act
AsksFor (phase.Closes own c) act = own ≡ act
AsksFor _ act = ⊥

-- the act that is asked, or the end
abbrev pub StepIs : {A : Type 0} → Step A → Phase A → Type 0
StepIs (step.Act act) p = AsksFor p act.now
StepIs (step.End end) p = p ≡ phase.Over end.now

-- what is given says what comes next: either each remaining run begins with the act, and there is
-- at least one; or the run is over, with this end
abbrev pub TellsNext : {A : Type 0} →
    Step A → List ℕ → List (List ℕ) → ℕ → History → Type 0
TellsNext (step.Act act) text args limit past = AsksFirst (deed_of act.now) text args limit past
TellsNext (step.End end) text args limit past = EndsSo (ending_of end.now) text args limit past
