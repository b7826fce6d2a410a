-- What a text of the code is read as.
use Rattle.std.specs.Prelude.{ℕ, ◌+◌, ◌≤◌, List, Result}
use Rattle.machine.specs.Frames.{Onward, left_of, weight, words_in}
use Rattle.machine.specs.Phases.{Leads}
use Rattle.machine.specs.declared.frame.Frame.{Frame}
use Rattle.state.specs.Budget.{again_of}
use Rattle.state.specs.Piece.{FormulaText, ScriptText}
use Rattle.state.specs.Prelude.{Course, FitsState, IsTree, ScriptTree, Status, outcome_of}
use Rattle.state.specs.declared.leaf.Leaf.TheVariants as leaf
use Rattle.state.specs.declared.outcome.Leave.{Leave}
use Rattle.state.specs.declared.state.State.{State}
use Rattle.steps.specs.Follows.{run_by, value_by}
use Rattle.tclparse.specs.Formula.{Formula}
use Rattle.tclparse.specs.FormulaFault.{FormulaFault}

-- with this outcome the frames go on as this course, and then as those below it say; no more may
-- begin by them before the next tick, and one may be new
pub record Puts {A : Type 0} (outcome : Result (List ℕ) (Leave A)) (below frames : List (Frame A))
    (course : Status → Course) : Type 0 where
  pub leads : (last : Onward) (state : State A) (s : Status) → FitsState state s →
      Leads last (leaf.Has outcome) frames state (left_of last (course s) below)
  pub words : again_of (outcome_of outcome) + words_in frames ≤ words_in below
  pub weight : weight frames ≤ 1 + weight below

-- the script runs that the text is read as (Tcl(n), rule 7)
abbrev pub PutsScript : {A : Type 0} → Result (List ℕ) (Leave A) → List (Frame A) →
    List (Frame A) → List ℕ → ℕ → Type 0
PutsScript outcome below frames text levels =
    (tree : ScriptTree) × IsTree (ScriptText text) tree ×
    Puts outcome below frames (run_by tree levels)

-- the formula is evaluated that the text is read as, or its error is at hand (expr(n))
abbrev pub PutsValue : {A : Type 0} → Result (List ℕ) (Leave A) → List (Frame A) →
    List (Frame A) → List ℕ → ℕ → Type 0
PutsValue outcome below frames text levels =
    (tree : Result Formula FormulaFault) × IsTree (FormulaText text) tree ×
    Puts outcome below frames (value_by tree levels)
