-- What the parts of the machine do.
use Rattle.std.proofs.Common.{◌≡◌, ℕ, List, [], ◌∷◌, Result, Ok, Err, IfOk, refl, sym, ap}
use Rattle.acts.specs.declared.act.Act.{Act}
use Rattle.code.specs.declared.made.Entry.{Entry}
use Rattle.machine.specs.Began.{HasBegun}
use Rattle.machine.specs.Waiting as waiting
use Rattle.machine.specs.declared.waits.Waits.{Waits}
use Rattle.machine.specs.Frames.{Onward, next_of, onward_of, left_of}
use Rattle.machine.specs.Phases.{Leads, Unwinds, Stands}
use Rattle.machine.specs.declared.frame.Frame.{Frame}
use Rattle.machine.specs.declared.frame.Frame.TheVariants as frame
use Rattle.machine.specs.declared.starting.Begun.{Begun}
use Rattle.machine.specs.declared.starting.Begun.TheVariants as begun
use Rattle.machine.specs.declared.unwinding.Unwound.{Unwound}
use Rattle.machine.specs.declared.unwinding.Unwound.TheVariants as unwound
use Rattle.machine.specs.declared.phase.Phase.{Phase}
use Rattle.machine.specs.declared.phase.Phase.TheVariants as phase
use Rattle.machine.proofs.Silent.{reaches_goes, same_left}
use Rattle.runs.specs.Ending.{Over}
use Rattle.state.specs.Leaf.{HasOutcome, course_of}
use Rattle.state.specs.Prelude.{Ends, Course, Dialogue, gives, Shows, Outcome, Status, FitsState, outcome_of}
use Rattle.state.specs.declared.leaf.Leaf.{Leaf}
use Rattle.state.specs.declared.leaf.Leaf.TheVariants as leaf
use Rattle.state.specs.declared.outcome.Leave.{Leave}
use Rattle.state.specs.declared.outcome.Leave.TheVariants as leave
use Rattle.state.specs.declared.state.State.{State}
use Rattle.steps.specs.Goes.{Goes}
use Rattle.steps.proofs.Leads.Silent.{same_goes, then_goes}

-- where P implies Q, a result whose value has P has a value that has Q
pub on_ok : {X E : Type 0} (r : Result X E) {P Q : X → Type 0} → ((x : X) → P x → Q x) →
    IfOk r P → IfOk r Q
on_ok (Ok x) each holds = each x holds
on_ok (Err e) each holds = holds

-- for some state of the definition that the code's state fits, the dialogue continues as the frames
-- say with this outcome
pub record Comes {A : Type 0} (last : Onward) (fs : List (Frame A)) (state : State A) (o : Outcome)
    (p : Dialogue Over) : Type 0 where
  pub status : Status
  pub fits : FitsState state status
  pub goes : Goes p (onward_of last fs status o)

module _ {A : Type 0} (last : Onward) (fs : List (Frame A)) (state : State A) {p q : Dialogue Over}
    (goes : Goes p q) where
  pub leads_from : {l : Leaf A (Waits A)} → Leads last l fs state q → Leads last l fs state p
  leads_from leads = record {
    status = leads.status;
    fits = leads.fits;
    goes = then_goes goes leads.goes;
  }

  pub unwinds_from : (u : Unwound A) → Unwinds last u fs state q → Unwinds last u fs state p
  unwinds_from (unwound.Has outcome) leads = leads_from leads
  unwinds_from (unwound.Begins next) begins = record {
    status = begins.status;
    fits = begins.fits;
    goes = then_goes goes begins.goes;
  }
  unwinds_from (unwound.Enters it levels value) begins = record {
    status = begins.status;
    fits = begins.fits;
    goes = then_goes goes begins.goes;
  }

  pub begun_from : (b : Begun A) → HasBegun last b fs state q → HasBegun last b fs state p
  begun_from (begun.Has outcome) leads = leads_from leads
  begun_from (begun.Asks what) begins = record {
    status = begins.status;
    fits = begins.fits;
    goes = then_goes goes begins.goes;
  }

  pub stands_from : {at : Phase A} {answers : ℕ} → Stands last at fs state answers q →
      Stands last at fs state answers p
  stands_from stands = record {
    status = stands.status;
    fits = stands.fits;
    plan = stands.plan;
    is_plan = stands.is_plan;
    goes = then_goes goes stands.goes;
  }

module _ {A : Type 0} (last : Onward) (fs : List (Frame A)) where
  -- a command at hand continues under the frames
  pub shown_leads : {l : Leaf A (Waits A)} {state : State A} {course : Course} →
      Shows waiting.next_of l state course → Leads last l fs state (left_of last course fs)
  shown_leads shown = record {
    status = shown.status;
    fits = shown.fits;
    goes = reaches_goes last fs shown.reaches;
  }

  -- a command that is over continues under the frames with its outcome
  pub over_goes : (l : Leaf A (Waits A)) (o : Outcome) (s : Status) → HasOutcome l o →
      Goes (left_of last (Ends (s, o)) fs) (left_of last (course_of waiting.next_of l s) fs)
  over_goes (leaf.Has outcome) o s is =
      same_left last fs (ap (λ (x : Outcome). let c : Course = Ends (s, x) in c) (sym is))
  over_goes (leaf.Asks act waits) o s is = absurd is

  pub over_leads : (l : Leaf A (Waits A)) (o : Outcome) (s : Status) (state : State A) →
      FitsState state s → HasOutcome l o → Leads last l fs state (left_of last (Ends (s, o)) fs)
  over_leads l o s state fits is =
      record { status = s; fits = fits; goes = over_goes l o s is }

  -- where nothing is done, the empty value goes to the frames
  pub nothing_leads : (value : List ℕ) (s : Status) (state : State A) → value ≡ [] →
      FitsState state s → Leads last (leaf.Has (Ok value)) fs state (left_of last (gives [] s) fs)
  nothing_leads value s state is fits =
      record { status = s; fits = fits; goes = same_left last fs (ap (λ v. gives v s) (sym is)) }

-- a stack continues by its top frame
pub top_goes : {A : Type 0} (last : Onward) (fs rest : List (Frame A)) (f : Frame A) (s : Status)
    (o : Outcome) →
    fs ≡ f ∷ rest → Goes (onward_of last fs s o) (left_of last (next_of f s o) rest)
top_goes last fs rest f s o is = same_goes (ap (λ l. onward_of last l s o) is)

module _ {A : Type 0} {last : Onward} {fs : List (Frame A)} {state : State A}
    {p q : Dialogue Over} where
  -- what is over hands its outcome to the frames
  pub over_comes : (o : Result (List ℕ) (Leave A)) → Goes p q → Leads last (leaf.Has o) fs state q →
      Comes last fs state (outcome_of o) p
  over_comes o goes leads = record {
    status = leads.status;
    fits = leads.fits;
    goes = then_goes goes leads.goes;
  }

  -- an act waits for its answer
  pub asks_stands : (act : Act A) (waits : Waits A) (answers : ℕ) → Goes p q →
      Leads last (leaf.Asks act waits) fs state q →
      Stands last (phase.Asks act waits) fs state answers p
  asks_stands act waits answers goes leads = record {
    status = leads.status;
    fits = leads.fits;
    plan = left_of last (course_of waiting.next_of (leaf.Asks act waits) leads.status) fs;
    is_plan = refl;
    goes = then_goes goes leads.goes;
  }

-- an outcome other than a value passes through a code of which nothing is done yet
pub code_passes : {A : Type 0} (it : Entry A) (levels : ℕ) (s : Status) (l : Leave A) →
    next_of {A = A} (frame.Code it levels) s (outcome_of (Err l)) ≡ Ends (s, outcome_of (Err l))
code_passes it levels s (leave.Coded code value) = refl
code_passes it levels s (leave.Stopped stop) = refl
