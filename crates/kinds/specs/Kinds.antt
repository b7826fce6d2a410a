-- The kinds of commands that run no script and ask no act, as courses.
use Rattle.std.specs.Prelude.{ℕ, List, Result, Ok, Err}
use Rattle.state.specs.Prelude.{Flaw, Ends, Course, gives, raises, Outcome, Status, Scopes}
use Rattle.kinds.specs.Readings.{Done, Reading, Found, Reads}
use Rattle.plan.specs.Plan as plan
use Rattle.tclstate.specs.Procs.{Procs}

-- an exit ends, and that is all that it does (Tcl(n), return codes)
abbrev pub exits : Result Outcome Flaw → Status → Course
exits (Ok outcome) s = Ends (s, outcome)
exits (Err flaw) s = raises flaw s

-- continues with a value; an error ends the command (Tcl(n), return codes)
abbrev pub on_ok : {X : Type 0} → Result X Flaw → Status → (X → Course) → Course
on_ok (Ok x) s next = next x
on_ok (Err flaw) s next = raises flaw s

-- the command is over with a value or an error (Tcl(n), return codes)
abbrev pub reports : Result (List ℕ) Flaw → Status → Course
reports (Ok value) s = gives value s
reports (Err flaw) s = raises flaw s

-- a command that sees V alone: once its texts are read, what it leaves is put back (Tcl(n), return
-- codes)
abbrev pub leaves : {V : Type 0} → (V → Status → Status) → Reading (Done V) → Status → Course
leaves back (Found done) s = reports done.1 (back done.0 s)
leaves back (Reads text next) s = plan.Reads text (λ tree. leaves back (next tree) s)

-- the state with these variables (set(n))
abbrev pub with_scopes : Scopes → Status → Status
with_scopes scopes s = record s { scopes = scopes }

-- the state with these procedures (proc(n))
abbrev pub with_procedures : Procs → Status → Status
with_procedures procs s = record s { procedures = procs }

-- a local command sees the variables alone (set(n))
abbrev pub locals : Reading (Done Scopes) → Status → Course
locals r s = leaves with_scopes r s

-- a defining command sees the procedures alone (proc(n))
abbrev pub definings : Reading (Done Procs) → Status → Course
definings r s = leaves with_procedures r s
