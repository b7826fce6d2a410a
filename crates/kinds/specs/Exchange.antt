-- What a command that runs no script does: its acts, the changes that it makes, and how it ends.
use Rattle.std.specs.Prelude.{ℕ, suc, List, Result, Ok, Err}
use Rattle.state.specs.Prelude.{Deed, Reply, Flaw, text_of, Ends, Course, ask, raises, Outcome, Gives, Leaves, Stops, Error, Status}
use Rattle.acts.specs.Deed as said
use Rattle.kinds.specs.Edits.{Edit, Opening, edited, opened_by}
use Rattle.state.specs.Outcome as stop
use Rattle.state.specs.Rows.{Holds}

-- an exchange of at most the given number of acts and openings: it is over; or a change is made,
-- something is opened, or an act is asked, and the exchange continues, after an act with its answer
-- from the state at that time
pub data Exchange : ℕ → Type 0 where
  Over : {n : ℕ} → (outcome : Outcome) → Exchange n
  Edits : {n : ℕ} → (edit : Edit) → Exchange n → Exchange n
  Opens : {n : ℕ} → (opening : Opening) → Exchange n → Exchange (suc n)
  Performs : {n : ℕ} → (deed : Deed) → (holds : Holds deed) → (Status → Reply → Exchange n) →
      Exchange (suc n)

-- the exchange that is over with a value
abbrev pub gives : {n : ℕ} → List ℕ → Exchange n
gives value = Over (Gives value)

-- the exchange that is over with an error
abbrev pub fails : {n : ℕ} → Flaw → Exchange n
fails flaw = Over (Leaves Error (text_of flaw))

-- continues with the exchange that there is; an error is how the command ends (Tcl(n), return
-- codes)
abbrev pub settled : {n : ℕ} → Result (Exchange n) Flaw → Exchange n
settled (Ok exchange) = exchange
settled (Err flaw) = fails flaw

-- continues after a write; a write that failed stops the run (this project's own rule)
abbrev pub written : {n : ℕ} → Exchange n → Reply → Exchange n
written next (said.Failed sent) = Over (Stops stop.WriterFailed)
written next _ = next

-- an exchange as a part of a run; it takes no tick
abbrev pub course : {n : ℕ} → Exchange n → Status → Course
course (Over outcome) s = Ends (s, outcome)
course (Edits edit rest) s = course rest (edited edit s)
course (Opens opening rest) s = course rest (opened_by opening s)
course (Performs deed holds next) s = ask deed s (λ t reply. course (next t reply) t)

-- a command that acts, by the words that it was given, or the error of the words (expect(1), send)
abbrev pub talks : {n : ℕ} → Result (Exchange n) Flaw → Status → Course
talks (Ok exchange) s = course exchange s
talks (Err flaw) s = raises flaw s
