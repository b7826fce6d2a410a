-- How the commands of the code, and what they hold, correspond to those of the definition.
use Rattle.std.specs.Prelude.{◌≡◌, ℕ}
use Rattle.code.specs.Doing.{doing_of}
use Rattle.nesting.specs.Calls as calls
use Rattle.nesting.specs.Control as meant
use Rattle.nesting.specs.Control.{Control}
use Rattle.nesting.specs.Doing.{done}
use Rattle.nesting.specs.Eval.{passed}
use Rattle.nesting.specs.Expr as expr
use Rattle.nesting.specs.Looping as foreach
use Rattle.nesting.specs.Nesting.{course_of, runs}
use Rattle.nesting.specs.declared.Nesting.{Nesting}
use Rattle.nesting.specs.declared.begun.Begun.{Begun}
use Rattle.nesting.specs.declared.begun.Begun.TheVariants as begun
use Rattle.nesting.specs.declared.held.Held.{Held}
use Rattle.nesting.specs.declared.held.Held.TheVariants as held
use Rattle.nesting.specs.declared.table.Control as coded
use Rattle.nesting.specs.declared.table.Control.TheVariants as control
use Rattle.state.specs.Prelude.{Course, Ends, FitsState, Outcome, Reaches, Status, outcome_of}
use Rattle.state.specs.declared.state.State.{State}

-- the command of the definition that a command of the code stands for
abbrev pub control_of : coded.Control → Control
control_of control.Catch = meant.Catch
control_of control.Eval = meant.Eval
control_of control.Expr = meant.Expr
control_of control.For = meant.For
control_of control.Foreach = meant.Foreach
control_of control.If = meant.If
control_of control.Switch = meant.Switch
control_of control.While = meant.While

-- what follows what runs within a command
abbrev pub next_of : {A : Type 0} → Held A → Status → Outcome → Course
next_of (held.Call own) = calls.next_of own
next_of (held.Expr own) = expr.next_of own
next_of (held.Foreach own) = foreach.next_of own

-- how far one command has come is the same course when it is seen as one of all commands
abbrev pub IsLifted : {A H : Type 0} → (H → Status → Outcome → Course) → Nesting A H →
    Nesting A (Held A) → Type 0
IsLifted own nesting lifted = (s : Status) → course_of own nesting s ≡ course_of next_of lifted s

-- the course of a command that has come so far by its words: it has ended; or something runs or is
-- done in its place; or something runs within it, and what is held continues with the outcome
abbrev pub course_of_begun : {A : Type 0} → Begun A → Status → Course
course_of_begun (begun.Has outcome) s = Ends (s, outcome_of outcome)
course_of_begun (begun.Runs it levels) s = runs it levels s passed
course_of_begun (begun.Does doing levels) s = done (doing_of doing) levels s
course_of_begun (begun.Holds it levels own) s = runs it levels s (next_of own)

-- for some state of the definition that the code's state fits, the course goes on as that of the
-- command, once the texts that it reads first are read
pub record HasBegun {A : Type 0} (b : Begun A) (state : State A) (course : Course) : Type 0 where
  pub status : Status
  pub fits : FitsState state status
  pub reaches : Reaches course (course_of_begun b status)
