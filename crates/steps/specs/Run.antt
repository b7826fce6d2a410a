-- The run of a code as one value.
use Rattle.std.specs.Prelude.{◌≡◌, ◌≢◌, ℕ, ◌+◌, ◌-◌, ◌*◌, ◌<◌, ◌≤◌, true, List, [], None, Result, Ok, Err, length, slice_get}
use Rattle.code.specs.Code.{At}
use Rattle.code.specs.Doing.{are_still, doing_of, size_of}
use Rattle.code.specs.declared.instruction.Instruction.{Instruction}
use Rattle.code.specs.declared.instruction.Instruction.TheVariants as i
use Rattle.code.specs.declared.made.Entry.{Entry}
use Rattle.code.specs.declared.made.Entry.TheVariants as entry
use Rattle.state.specs.Budget.{again_of}
use Rattle.state.specs.Prelude.{Course, Dialogue, Ends, FitsState, Outcome, Reaches, Status, outcome_of}
use Rattle.state.specs.declared.outcome.Leave.{Leave}
use Rattle.state.specs.declared.state.State.{State}
use Rattle.steps.specs.Follows.{Follows, Resumes}
use Rattle.steps.specs.Handling.{resumed}
use Rattle.steps.specs.View.{did_of, spot_of, stop_of}
use Rattle.steps.specs.declared.progress.Progress.{Progress}
use Rattle.steps.specs.declared.progress.Progress.TheVariants as went
use Rattle.steps.specs.declared.run.Run.{Run}
use Rattle.steps.specs.declared.spot.Spot as coded
use Rattle.tclparse.specs.declared.fault.Fault as read
use Rattle.tclparse.specs.declared.operator.Binary.{Binary}
use Rattle.tclparse.specs.declared.operator.Function.{Function}
use Rattle.tclparse.specs.declared.operator.Unary.{Unary}

-- how many places the run has still before it
abbrev pub places_left : {A : Type 0} → Run A → ℕ
places_left run = length run.code.value.items - run.spot.place

-- with so many ticks left no more commands, and no more texts, than this begin before the code is
-- over: without a tick one stands further on than the one before, and with each tick the run may go
-- back to any place (this project's own rule)
abbrev pub most_commands : {A : Type 0} → Run A → ℕ → ℕ
most_commands run left = left * (length run.code.value.items + 1) + places_left run

-- an instruction of words or of a formula after which the next place comes, unless it fails
-- (Tcl(n), rules 5, 7, 8 and 11; expr(n))
pub data IsPlain {A : Type 0} : Instruction A → Type 0 where
  text : {bytes : List ℕ} → IsPlain (i.Text bytes)
  variable : {name : List ℕ} → IsPlain (i.Variable name)
  element : {name : List ℕ} → IsPlain (i.Element name)
  joins : IsPlain i.Join
  enters : IsPlain i.Enter
  leaves : IsPlain i.Leave
  counts : {n : ℕ} → IsPlain (i.Count n)
  spreads : IsPlain i.Spread
  numeral : {digits : List ℕ} → IsPlain (i.Numeral digits)
  prefixed : {operator : Unary} → IsPlain (i.Prefix operator)
  both : {operator : Binary} → IsPlain (i.Binary operator)
  called : {function : Function} {n : ℕ} → IsPlain (i.Call function n)
  truth : IsPlain i.Truth
  result : IsPlain i.Result
  drops : IsPlain i.Discard

-- an instruction after which the next place comes or this one, unless it fails (expr(n), operators)
pub data Forks {A : Type 0} : Instruction A → ℕ → Type 0 where
  and_also : {place : ℕ} → Forks (i.AndAlso place) place
  or_else : {place : ℕ} → Forks (i.OrElse place) place
  unless : {place : ℕ} → Forks (i.Unless place) place

-- how often a code may give branches before a tick is taken (this project's own rule)
abbrev pub branches_in : {A : Type 0} → Entry A → ℕ
branches_in (entry.Made it) = 0
branches_in (entry.Argument words) = 1
branches_in (entry.Does doing) = 0

-- from this place on a tick is taken, or the code ends, before a command begins; or branches are
-- given last, where they may be given (this project's own rule)
pub data IsQuiet {A : Type 0} (said : ℕ) (code : List (Instruction A)) : ℕ → Type 0 where
  past : {place : ℕ} → slice_get code place ≡ None → IsQuiet said code place
  ticks : {place from_end : ℕ} → At code place (i.Next from_end) → IsQuiet said code place
  faulty : {place : ℕ} {fault : read.Fault} → At code place (i.Fault fault) →
      IsQuiet said code place
  says : {place : ℕ} → 0 < said → At code place i.Say → slice_get code (place + 1) ≡ None →
      IsQuiet said code place
  goes : {place : ℕ} {it : Instruction A} → At code place it → IsPlain it →
      IsQuiet said code (place + 1) → IsQuiet said code place
  forks : {place other : ℕ} {it : Instruction A} → At code place it → Forks it other →
      IsQuiet said code (place + 1) → IsQuiet said code other → IsQuiet said code place
  jumps : {place other : ℕ} → At code place (i.Jump other) → IsQuiet said code other →
      IsQuiet said code place

-- the outcome is a value
abbrev pub IsValue : {A : Type 0} → Result (List ℕ) (Leave A) → Type 0
IsValue (Ok value) = Unit {0}
IsValue (Err leave) = ⊥

-- no command begins, branches are given last, and exp_continue has not ended the code
abbrev pub IsIdle : {A : Type 0} → ℕ → List (Instruction A) → Progress → coded.Spot A → Type 0
IsIdle said code went.GoesOn spot = Unit {0}
IsIdle said code went.Begins spot = ⊥
IsIdle said code went.Says spot = (0 < said) × (slice_get code spot.place ≡ None)
IsIdle said code went.Runs spot = ⊥
IsIdle said code went.Evaluates spot = ⊥
IsIdle said code went.Over spot = again_of (outcome_of spot.outcome) ≡ 0
IsIdle said code went.Stuck spot = Unit {0}

-- a run of which nothing is done yet, whose code takes a tick before a command begins, or gives
-- branches last, where they may be given
pub record IsFresh {A : Type 0} (said : ℕ) (run : Run A) : Type 0 where
  pub quiet : IsQuiet said run.code.value.items run.spot.place
  pub handlers : (spot_of run.spot).handlers ≡ []

-- where no command begins by a code: nothing begins but what texts are read as, and the code ends
-- with an outcome that counts no more than this, as one of exp_continue counts (this project's own
-- rule)
abbrev pub StaysStill : {A : Type 0} → Progress → coded.Spot A → ℕ → Type 0
StaysStill went.GoesOn spot most = Unit {0}
StaysStill went.Begins spot most = ⊥
StaysStill went.Says spot most = ⊥
StaysStill went.Runs spot most = Unit {0}
StaysStill went.Evaluates spot most = Unit {0}
StaysStill went.Over spot most = again_of (outcome_of spot.outcome) ≤ most
StaysStill went.Stuck spot most = Unit {0}

-- no command begins by the code of a run, which has at most so many instructions
pub record IsStillRun {A : Type 0} (most : ℕ) (run : Run A) : Type 0 where
  pub still : are_still run.code.value.items ≡ true
  pub short : length run.code.value.items ≤ most

-- a run of which nothing is done yet
abbrev pub IsBegun : {A : Type 0} → Entry A → Run A → Type 0
IsBegun (entry.Made it) run = IsFresh 0 run
IsBegun (entry.Argument words) run = IsFresh 1 run
IsBegun (entry.Does doing) run = IsStillRun (size_of (doing_of doing)) run

-- for some state of the definition that the code's state fits, the course ends with this outcome,
-- once the texts that it reads are read
pub record IsDone {A : Type 0} (course : Course) (outcome : Result (List ℕ) (Leave A))
    (state : State A) : Type 0 where
  pub status : Status
  pub fits : FitsState state status
  pub reaches : Reaches course (Ends (status, outcome_of outcome))

module _ {A X : Type 0} (last : Status → Outcome → Dialogue X) where
  -- a run waits for an outcome: whichever it is, this is what is left to be done with it, and then
  -- what is done last
  abbrev pub Awaits : Run A → (Status → Outcome → Dialogue X) → Type 0
  Awaits run next =
      (s : Status) (outcome : Outcome) →
      Resumes run.code.value.items last (resumed (spot_of run.spot) outcome s) (next s outcome)

  -- for some state of the definition that the code's state fits, the dialogue continues as what
  -- begins by the words on top, without which the run awaits its outcome, or as what
  -- is done last
  pub record HasCome (progress : Progress) (run : Run A) (state : State A) (p : Dialogue X) :
      Type 0 where
    pub status : Status
    pub fits : FitsState state status
    pub stops : progress ≢ went.GoesOn
    pub follows : Follows run.code.value.items last (did_of progress run.spot status) p

  -- for some state of the definition that the code's state fits, the dialogue continues as what
  -- begins, whose outcome the run awaits, or as what is done last
  pub record HasStopped (progress : Progress) (run : Run A) (state : State A) (p : Dialogue X) :
      Type 0 where
    pub status : Status
    pub fits : FitsState state status
    pub stops : progress ≢ went.GoesOn
    pub follows : Follows run.code.value.items last (stop_of progress run.spot status) p
