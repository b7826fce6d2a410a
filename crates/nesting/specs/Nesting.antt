-- How far a command that runs scripts or formulas has come, as a course.
use Rattle.std.specs.Prelude.{ℕ, ◌<◌}
use Rattle.code.specs.declared.made.Made.{Made}
use Rattle.code.specs.declared.made.Made.TheVariants as made
use Rattle.plan.specs.Plan.{Ends, Calls, and_then, onward}
use Rattle.nesting.specs.declared.Nesting.{Nesting}
use Rattle.nesting.specs.declared.Nesting.TheVariants as nesting
use Rattle.state.specs.declared.state.State.{State}
use Rattle.state.specs.Dialogue.{Course, gives}
use Rattle.state.specs.Evaluated.{evaluated}
use Rattle.state.specs.Outcome.{Outcome}
use Rattle.state.specs.Piece.{Script}
use Rattle.state.specs.Reaches.{Reaches}
use Rattle.state.specs.Status.{Status}
use Rattle.state.specs.View.{FitsState, outcome_of}

-- a script runs, or a formula is evaluated, and next continues with the outcome, which is the
-- formula's value or its error (Tcl(n), rule 7; expr(n))
abbrev pub runs : {A : Type 0} → Made A → ℕ → Status → (Status → Outcome → Course) → Course
runs (made.Script tree) levels s next = Calls (Script tree levels) s next
runs (made.Formula formula) levels s next =
    and_then (evaluated levels formula s (λ t value. gives value t)) (onward next)

-- the course of a command that has come this far: it has ended, or something runs, and next
-- continues with the outcome of that by what is held (Tcl(n), rule 7)
abbrev pub course_of : {A H : Type 0} → (H → Status → Outcome → Course) → Nesting A H → Status →
    Course
course_of next (nesting.Has outcome) s = Ends (s, outcome_of outcome)
course_of next (nesting.Runs it levels held) s = runs it levels s (next held)

-- for some state of the definition that the code's state fits, the course goes on as that of the
-- command, once the texts that it reads first are read
pub record Nests {A H : Type 0} (next : H → Status → Outcome → Course) (n : Nesting A H)
    (state : State A) (course : Course) : Type 0 where
  pub status : Status
  pub fits : FitsState state status
  pub reaches : Reaches course (course_of next n status)

-- something runs again only after a tick (this project's own rule)
abbrev pub TicksFirst : {A H : Type 0} → Nesting A H → ℕ → ℕ → Type 0
TicksFirst (nesting.Has outcome) new old = Unit {0}
TicksFirst (nesting.Runs it levels held) new old = new < old
