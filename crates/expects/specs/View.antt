-- How what the code holds stands to the definition.
use Rattle.std.specs.Prelude.{◌≡◌, ℕ, List, [], Option, Some, None, Err}
use Rattle.state.specs.Prelude.{Deed, Reply, deed_of, Id, Ends, Asks, Calls, Course, gives, Outcome, TurnTree, Reaches, Status, lines, shut, FitsState, outcome_of}
use Rattle.acts.specs.Deed as said
use Rattle.acts.specs.declared.row.Row.{Row}
use Rattle.choices.specs.Branches.{Pair}
use Rattle.choices.specs.Choice.{Chosen, Chooses, Taken}
use Rattle.choices.specs.Selects.{taken_by as taken_of_code}
use Rattle.choices.specs.declared.choice.Choice.{Choice}
use Rattle.choices.specs.declared.choice.Trigger.{Trigger}
use Rattle.expects.specs.declared.form.Form as coded
use Rattle.expects.specs.declared.form.Form.TheVariants as form
use Rattle.expects.specs.declared.turn.Begun.{Begun}
use Rattle.expects.specs.declared.turn.Begun.TheVariants as begun
use Rattle.expects.specs.declared.turn.Opening.{Opening}
use Rattle.expects.specs.declared.turn.Opening.TheVariants as opens
use Rattle.expects.specs.declared.turn.Talk.{Talk}
use Rattle.expects.specs.declared.turn.Talk.TheVariants as talk
use Rattle.expects.specs.declared.turn.Turn as turning
use Rattle.expects.specs.declared.turn.Turned.{Turned}
use Rattle.expects.specs.declared.turn.Turned.TheVariants as came
use Rattle.expects.specs.declared.turn.Waits as waiting
use Rattle.expects.specs.declared.turn.Waits.TheVariants as waits
use Rattle.expects.specs.Expect.{by_words}
use Rattle.expects.specs.Turn.{arrives, behind, consumed_by, does, taken_by, waited}
use Rattle.expects.specs.Words.{Form, Waits, Stands}
use Rattle.plan.specs.Plan.{goes}
use Rattle.choices.specs.Lines.{Line}
use Rattle.choices.specs.LogState.{is_logged}
use Rattle.state.specs.Budget.{again_of}
use Rattle.state.specs.Dialogue.{replied, written}
use Rattle.state.specs.Piece.{Script, Turn}
use Rattle.state.specs.Placed.{noted}
use Rattle.state.specs.declared.outcome.Leave.TheVariants as leave
use Rattle.state.specs.declared.outcome.Stop.TheVariants as halt
use Rattle.state.specs.declared.state.State.{State}
use Rattle.state.specs.Words.{words}

-- the command that one of the code's stands for
abbrev pub form_of : coded.Form → Form
form_of form.Waits = Waits
form_of (form.Stands side) = Stands side

-- the turn that one of the code's stands for; its vector of rows has no part in that
abbrev pub turn_of : {A : Type 0} → turning.Turn A → TurnTree
turn_of t = record {
  effective = t.effective;
  seconds = t.seconds;
  trigger = t.trigger;
  clock = t.clock;
}

-- the bytes of a write to standard output or to the log
abbrev pub bytes_of : Deed → List ℕ
bytes_of (said.Out bytes) = bytes
bytes_of (said.Log bytes) = bytes
bytes_of _ = []

-- the rows of a wait
abbrev pub rows_waited : Deed → List Row
rows_waited (said.Wait rows timer) = rows
rows_waited _ = []

-- once bytes are written to standard output, they are written to the log, if the settings say so,
-- and then arrive (expect(1), log_user and log_file)
abbrev pub notes : Id → List ℕ → TurnTree → ℕ → Status → Course
notes i bytes turn levels s = noted (is_logged s.log) bytes s (arrives i bytes turn levels)

-- a write failed, and the run stops
abbrev pub has_failed : {A : Type 0} → Talk A
has_failed = talk.Turned (came.Has (Err (leave.Stopped halt.WriterFailed)))

-- what was chosen is done (expect(1), expect)
abbrev pub done : {A : Type 0} → Choice A → TurnTree → ℕ → Status → Course
done choice turn levels s = does turn levels (taken_of_code choice.taken) choice.body s

-- what was chosen is done, if anything was (expect(1), expect)
abbrev pub settles : {A : Type 0} → Option (Choice A) → TurnTree → ℕ → Status → Course
settles None turn levels s = gives [] s
settles (Some choice) turn levels s = done choice turn levels s

-- what follows the answer to an act (expect(1), expect)
abbrev pub next_of : {A : Type 0} → waiting.Waits A → Deed → Status → Reply → Course
next_of (waits.Awaited turn) deed = waited (turn_of turn.value) turn.value.levels
next_of (waits.Shown id turn) deed =
    written (notes id (bytes_of deed) (turn_of turn.value) turn.value.levels)
next_of (waits.Noted id turn) deed =
    written (arrives id (bytes_of deed) (turn_of turn.value) turn.value.levels)
next_of (waits.Closed box) deed =
    λ s reply. settles box.value.choice (turn_of box.value.turn.value) box.value.turn.value.levels
    (shut box.value.id s)

-- the answer brings bytes
abbrev pub Brings : Reply → Type 0
Brings (said.Arrive id bytes) = Unit {0}
Brings _ = ⊥

-- the answer brings bytes, or is that to a write of bytes
abbrev pub IsOnTheWay : {A : Type 0} → waiting.Waits A → Reply → Type 0
IsOnTheWay (waits.Awaited turn) reply = Brings reply
IsOnTheWay (waits.Shown id turn) reply = Unit {0}
IsOnTheWay (waits.Noted id turn) reply = Unit {0}
IsOnTheWay (waits.Closed box) reply = ⊥

-- the result of a turn: it has ended, a body runs whose outcome goes to the turn, or an act waits
-- for its answer
abbrev pub course_of_turned : {A : Type 0} → Turned A → Status → Course
course_of_turned (came.Has outcome) s = Ends (s, outcome_of outcome)
course_of_turned (came.Runs script levels turn) s =
    Calls (Script script levels) s (behind (turn_of turn.value) turn.value.levels)
course_of_turned (came.Asks act held) s =
    Asks (deed_of act) (replied (deed_of act) s (next_of held (deed_of act)))

-- the same, or a turn begins
abbrev pub course_of_talk : {A : Type 0} → Talk A → Status → Course
course_of_talk (talk.Turned turned) s = course_of_turned turned s
course_of_talk (talk.Turns turn) s = goes (Turn (turn_of turn.value) turn.value.levels) s

-- a command has ended, or a turn begins
abbrev pub course_of_opening : {A : Type 0} → Opening A → Status → Course
course_of_opening (opens.Has outcome) s = Ends (s, outcome_of outcome)
course_of_opening (opens.Turns turn) s = goes (Turn (turn_of turn.value) turn.value.levels) s

-- the same, or words are substituted for a command
abbrev pub course_of_begun : {A : Type 0} → ℕ → Begun A → Status → Course
course_of_begun levels (begun.Opens opening) s = course_of_opening opening s
course_of_begun levels (begun.Gathers ws form) s =
    words levels ws [] s (by_words (form_of form) levels)

-- there is a state of the definition that the code's state fits and in which the course leads to
-- the result at hand, once its texts are read
pub record Comes {A X : Type 0} (course_of : X → Status → Course) (x : X) (state : State A)
    (course : Course) : Type 0 where
  pub status : Status
  pub fits : FitsState state status
  pub reaches : Reaches course (course_of x status)

-- an outcome of a turn is not one of exp_continue (expect(1), exp_continue)
abbrev pub IsPlain : {A : Type 0} → Turned A → Type 0
IsPlain (came.Has outcome) = again_of (outcome_of outcome) ≡ 0
IsPlain _ = Unit {0}

-- the same of a command (expect(1), exp_continue)
abbrev pub IsPlainOpening : {A : Type 0} → Opening A → Type 0
IsPlainOpening (opens.Has outcome) = again_of (outcome_of outcome) ≡ 0
IsPlainOpening (opens.Turns turn) = Unit {0}

-- the same of what follows its words (expect(1), exp_continue)
abbrev pub IsPlainBegun : {A : Type 0} → Begun A → Type 0
IsPlainBegun (begun.Opens opening) = IsPlainOpening opening
IsPlainBegun (begun.Gathers ws form) = Unit {0}

-- a turn begins only after exp_continue (expect(1), exp_continue)
abbrev pub TurnsBehind : {A : Type 0} → Opening A → Outcome → Type 0
TurnsBehind (opens.Has outcome) o = Unit {0}
TurnsBehind (opens.Turns turn) o = again_of o ≡ 1

-- what the code chose is what the definition chooses, with what it has for expect_out
abbrev pub IsSame : {A : Type 0} → Option (Choice A) → Option Chosen → Option Taken → Type 0
IsSame None None taken = Unit {0}
IsSame (Some choice) (Some c) taken =
    (choice.body ≡ c.pair.branch.body) × (taken_of_code choice.taken ≡ taken)
IsSame _ _ taken = ⊥

-- there is a choice after a trigger
abbrev pub HasChoice : List Line → Trigger → List Pair → Type 0
HasChoice ls t pairs = (c : Chosen) × Chooses ls t pairs (Some c)

-- a choice after a trigger is made, and what it consumes is consumed
pub record Selected {A : Type 0} (choice : Option (Choice A)) (t : Trigger) (pairs : List Pair)
    (state : State A) (s : Status) : Type 0 where
  pub selected : Option Chosen
  pub chooses : Chooses (lines s) t pairs selected
  pub same : IsSame choice selected (taken_by t selected s)
  pub fits : FitsState state (consumed_by t selected s)
