-- Sessions, as their callers see them.
use Rattle.std.specs.Prelude.{◌≡◌, ℕ, ◌↔◌, List, [], ◌∷◌, ◌++◌, length, Option, Some, None}
use Rattle.state.specs.Prelude.{Deed, deed_of, NoMemory, Dialogue, IsTree, Status, FitsState}
use Rattle.acts.specs.History.{History}
use Rattle.acts.specs.Limits.{IsLimit}
use Rattle.acts.specs.declared.answer.Answer.{Answer}
use Rattle.machine.specs.Frames.{Onward, stack}
use Rattle.machine.specs.Phases.{IsPlan, deed_in, paired}
use Rattle.machine.specs.Below.{IsBelow}
use Rattle.machine.specs.View.{ending_of}
use Rattle.machine.specs.declared.end.End.{End}
use Rattle.machine.specs.declared.phase.Phase.{Phase}
use Rattle.machine.specs.declared.phase.Phase.TheVariants as phase
use Rattle.engine.specs.declared.session.Session.{Session}
use Rattle.plan.specs.Exact.{Same, Begins, Rests}
use Rattle.plan.specs.Runs.{Runs}
use Rattle.runs.specs.Bounds.{BeginsRun}
use Rattle.runs.specs.Ending.{Ending, Over}
use Rattle.runs.specs.Run.{Run, whole}
use Rattle.runs.specs.Scripts.{plan_of}
use Rattle.state.specs.Rows.{HoldTogether, Holds}

-- the session is at this place of the runs of a script with these arguments and this many ticks: it
-- made these acts and got these answers, and what it is still to do has exactly the rests of those
-- runs that begin with them
pub record IsAt {A : Type 0} (session : Session A) (text : List ℕ) (args : List (List ℕ))
    (limit : ℕ) (past : History) : Type 0 where
  pub allowed : IsLimit limit
  pub answers : session.answers ≡ length past
  pub status : Status
  pub fits : FitsState session.state status
  pub last : Onward
  pub below : IsBelow session.running last
  pub plan : Dialogue Over
  pub is_plan : IsPlan last session.phase (stack session.running.frames) status session.answers plan
  pub exact : Same (Runs plan_of IsTree plan)
      (Rests Over plan_of IsTree (whole text args limit) past)

-- the act that was asked, with this answer
abbrev pub answered_so : {A : Type 0} → Session A → Option (Answer A) → History
answered_so session answer = paired (deed_in session.phase) answer

-- each remaining run begins with this act, and there is at least one; at a wait each buffer holds
-- at most its size, and all buffers together hold at most the sum of their sizes
pub record AsksFirst (deed : Deed) (text : List ℕ) (args : List (List ℕ)) (limit : ℕ)
    (past : History) : Type 0 where
  pub goes : BeginsRun text args limit past
  pub first : (h : History) (e : Ending) → Run text args limit (past ++ h) e →
      Begins deed (λ reply rest. Run text args limit (past ++ (deed, reply) ∷ rest) e) h
  pub holds : Holds deed
  pub together : HoldTogether deed

-- the one remaining run has no act more, and this end
abbrev pub EndsSo : Ending → List ℕ → List (List ℕ) → ℕ → History → Type 0
EndsSo ending text args limit past =
    (h : History) (e : Ending) →
    Run text args limit (past ++ h) e ↔ ((h ≡ []) × (e ≡ ending))

-- what is given tells what comes next
abbrev pub Tells : {A : Type 0} → Phase A → List ℕ → List (List ℕ) → ℕ → History → Type 0
Tells (phase.Asks act waits) text args limit past = AsksFirst (deed_of act) text args limit past
Tells (phase.Closes act c) text args limit past = AsksFirst (deed_of act) text args limit past
Tells (phase.Over end) text args limit past = EndsSo (ending_of end) text args limit past
Tells _ text args limit past = ⊥

-- memory was refused to the session, with this refusal
abbrev pub IsRefused : {A : Type 0} → NoMemory → Session A → Type 0
IsRefused refusal session = session.phase ≡ phase.Refused refusal

-- the end that was given, if any
abbrev pub end_in : {A : Type 0} → Phase A → Option (End A)
end_in (phase.Over end) = Some end
end_in _ = None

-- the end that a session has given, if any
abbrev pub has_end : {A : Type 0} → Session A → Option (End A)
has_end session = end_in session.phase
