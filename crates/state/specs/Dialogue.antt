-- Dialogues with the world: what a part of a run does, starting from a state.
use Rattle.std.specs.Prelude.{ℕ, zero, suc, List, Bool, true, false, if◌then◌else◌}
use Rattle.acts.specs.Deed.{Deed, Reply}
use Rattle.acts.specs.Deed as said
use Rattle.acts.specs.Fits.{fits}
use Rattle.acts.specs.Flaw.{Flaw, text_of}
use Rattle.acts.specs.Flaw as flaw
use Rattle.plan.specs.Plan.{Plan, Ends, Asks, Reads, Calls}
use Rattle.state.specs.Outcome.{Code, Error, Stop, Outcome, Gives, Leaves, Stops}
use Rattle.state.specs.Outcome as stop
use Rattle.state.specs.Piece.{Piece, Script, ScriptTree, ScriptText, Text, Tree}
use Rattle.state.specs.Status.{Status}

-- a plan over the pieces, the states, the outcomes, the acts and the texts of a run
abbrev pub Dialogue : Type 0 → Type 0
Dialogue X = Plan Piece Status Outcome Deed Reply Text Tree X

-- what a part of a run does: it leaves a state and an outcome
abbrev pub Course : Type 0
Course = Dialogue (Status × Outcome)

-- the course that is over with a value
abbrev pub gives : List ℕ → Status → Course
gives value s = Ends (s, Gives value)

-- the course that is over with another code than ok, and a value (Tcl(n), return codes)
abbrev pub leaves : Code → List ℕ → Status → Course
leaves code value s = Ends (s, Leaves code value)

-- the course that is over with an error, whose value is the error's text (Tcl(n), return codes)
abbrev pub raises : Flaw → Status → Course
raises flaw s = Ends (s, Leaves Error (text_of flaw))

-- the course that stops the whole run
abbrev pub stops : Stop → Status → Course
stops stop s = Ends (s, Stops stop)

-- the course continues where there is a value; every other outcome is passed on (Tcl(n), return
-- codes)
abbrev pub on_value : (Status → List ℕ → Course) → Status → Outcome → Course
on_value next s (Gives value) = next s value
on_value next s (Leaves code value) = Ends (s, Leaves code value)
on_value next s (Stops stop) = Ends (s, Stops stop)

-- a script runs one level deeper, and the course continues with the script's outcome; where no
-- level is left, that outcome is an error (Tcl(n), rule 7; interp(n), recursionlimit)
abbrev pub inside : ℕ → ScriptTree → Status → (Status → Outcome → Course) → Course
inside zero tree s next = next s (Leaves Error (text_of flaw.TooManyNested))
inside (suc levels) tree s next = Calls (Script tree levels) s next

-- the same, of a script that is given by its text
abbrev pub within : ℕ → List ℕ → Status → (Status → Outcome → Course) → Course
within levels text s next = Reads (ScriptText text) (λ tree. inside levels tree s next)

-- takes a tick, where one is left; else the run stops (this project's own rule)
abbrev pub tick_of : ℕ → Status → (Status → Course) → Course
tick_of zero s next = stops stop.Limit s
tick_of (suc left) s next = next (record s { left = left })

-- the same, of the ticks that the state has left
abbrev pub tick : Status → (Status → Course) → Course
tick s next = tick_of s.left s next

-- whether the reply says that the world had no more answers
abbrev pub is_no_more : Reply → Bool
is_no_more said.NoMore = true
is_no_more _ = false

-- a dialogue continues by an answer that fits its act; without an answer, or with one that does not
-- fit, the whole run stops, so that what follows an act never meets an answer that does not fit
-- (this project's own rule)
abbrev pub judged : {X : Type 0} → (Stop → X) → Deed → Reply → Dialogue X → Dialogue X
judged stopped deed reply next =
    if is_no_more reply then Ends (stopped stop.NoMore)
    else if fits deed reply then next
    else Ends (stopped stop.BadAnswer)

-- the state and the outcome that a stop leaves
abbrev pub stopping : Status → Stop → Status × Outcome
stopping s stop = (s, Stops stop)

-- the course that follows an answer to the act
abbrev pub replied : Deed → Status → (Status → Reply → Course) → Reply → Course
replied deed s next reply = judged (stopping s) deed reply (next s reply)

-- an act, and what is done with its answer
abbrev pub ask : Deed → Status → (Status → Reply → Course) → Course
ask deed s next = Asks deed (replied deed s next)

-- what follows the answer to a write; a write that failed stops the run (this project's own rule)
abbrev pub written : (Status → Course) → Status → Reply → Course
written next s (said.Failed sent) = stops stop.WriterFailed s
written next s _ = next s
