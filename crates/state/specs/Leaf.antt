-- How far a command that runs no script has come, as a course.
use Rattle.std.specs.Prelude.{◌≡◌}
use Rattle.acts.specs.Deed.{Deed, Reply, deed_of}
use Rattle.plan.specs.Plan.{Ends, Asks}
use Rattle.state.specs.declared.leaf.Leaf.{Leaf}
use Rattle.state.specs.declared.leaf.Leaf.TheVariants as leaf
use Rattle.state.specs.declared.state.State.{State}
use Rattle.state.specs.Outcome.{Outcome}
use Rattle.state.specs.Dialogue.{Course, replied}
use Rattle.state.specs.Reaches.{Reaches}
use Rattle.state.specs.Status.{Status}
use Rattle.state.specs.View.{FitsState, outcome_of}

-- the course of a command that has come this far: it has ended, or an act waits for its answer,
-- after which the course continues as next says
abbrev pub course_of : {A W : Type 0} →
    (W → Deed → Status → Reply → Course) → Leaf A W → Status → Course
course_of next (leaf.Has outcome) s = Ends (s, outcome_of outcome)
course_of next (leaf.Asks act waits) s =
    Asks (deed_of act) (replied (deed_of act) s (next waits (deed_of act)))

-- for some state of the definition that the code's state fits, the course goes on as that of the
-- leaf, once the texts that it reads first are read
pub record Shows {A W : Type 0} (next : W → Deed → Status → Reply → Course)
    (l : Leaf A W) (state : State A) (course : Course) : Type 0 where
  pub status : Status
  pub fits : FitsState state status
  pub reaches : Reaches course (course_of next l status)

-- the command has ended with this outcome
abbrev pub HasOutcome : {A W : Type 0} → Leaf A W → Outcome → Type 0
HasOutcome (leaf.Has outcome) o = outcome_of outcome ≡ o
HasOutcome (leaf.Asks act waits) o = ⊥

-- two commands have come equally far, and P relates what waits for the answer in each of them
abbrev pub Maps : {A W V : Type 0} → (W → V → Type 0) → Leaf A W → Leaf A V → Type 0
Maps P (leaf.Has outcome) (leaf.Has same) = outcome ≡ same
Maps P (leaf.Asks act own) (leaf.Asks same other) = (act ≡ same) × P own other
Maps P one other = ⊥
