-- What an instruction did is what was left to be done.
use Rattle.std.specs.Prelude.{◌≡◌, ℕ, ◌+◌, ◌≤◌, List, [], Result, length, slice_get}
use Rattle.code.specs.Code.{FormulaAt, ScriptAt}
use Rattle.expects.specs.Expect.{by_name}
use Rattle.code.specs.declared.instruction.Instruction.{Instruction}
use Rattle.nesting.specs.Formulas.{on_formula}
use Rattle.state.specs.Evaluated.{evaluated}
use Rattle.plan.specs.Plan as plan
use Rattle.plan.specs.Plan.{and_then, onward}
use Rattle.runs.specs.Commands.{command}
use Rattle.runs.specs.Scripts.{plan_of}
use Rattle.state.specs.Prelude.{Course, Dialogue, gives, IsTree, Outcome, Status}
use Rattle.state.specs.Piece.{FormulaText, Script, ScriptText, ScriptTree, Tree}
use Rattle.tclparse.specs.Formula.{Formula}
use Rattle.tclparse.specs.FormulaFault.{FormulaFault}
use Rattle.steps.specs.Does.{Arrives}
use Rattle.steps.specs.Goes.{Goes}
use Rattle.steps.specs.Layout.{HeadAt, FramesAt}
use Rattle.steps.specs.Machine.{machine}
use Rattle.steps.specs.Places.{Head, Frame, brackets, left_of, spot_at}
use Rattle.steps.specs.Handling.{resumed}
use Rattle.steps.specs.Spot.{Spot, Did, Went, Reads, Begins, Says, Runs, Evaluates, Over, Stuck, beginning_at}

-- the course of a script that is read as this, within which so many levels may nest (Tcl(n),
-- rule 7)
abbrev pub run_by : ScriptTree → ℕ → Status → Course
run_by tree levels s = plan.goes (Script tree levels) s

-- the course of a text that is read as this formula, or the error that it is none (expr(n))
abbrev pub value_by : Result Formula FormulaFault → ℕ → Status → Course
value_by tree levels s =
    on_formula s (λ f. evaluated levels f s (λ t value. gives value t)) tree

module _ {A X : Type 0} (code : List (Instruction A)) (last : Status → Outcome → Dialogue X) where
  -- the run of the code stands where this is left to be done, and then what is done last
  pub record Here (spot : Spot) (s : Status) (p : Dialogue X) : Type 0 where
    pub place : ℕ
    pub levels : ℕ
    pub head : Head
    pub frames : List Frame
    pub end : ℕ
    pub at : HeadAt code place head end
    pub behind : FramesAt code end frames
    pub fits : levels + brackets frames ≤ 255
    pub stands : spot ≡ spot_at place levels head frames
    pub is : p ≡ left_of last levels head frames s

  -- it continues as something that is left to be done here
  pub record Comes (spot : Spot) (s : Status) (p : Dialogue X) : Type 0 where
    pub then : Dialogue X
    pub goes : Goes p then
    pub at : Here spot s then

  -- what is left stands where the outcome of a command led, or is the last one
  abbrev pub Resumes : Did → Dialogue X → Type 0
  Resumes (Went spot s) p = Here spot s p
  Resumes (Over outcome s) p = p ≡ last s outcome
  Resumes did p = ⊥

  -- it continues as this course, whose outcome leads on from here
  pub record Waits (course : Course) (spot : Spot) (p : Dialogue X) : Type 0 where
    pub next : Status → Outcome → Dialogue X
    pub goes : Goes p (and_then course (onward next))
    pub resumes : (t : Status) (outcome : Outcome) →
        Resumes (resumed spot outcome t) (next t outcome)

  -- what an instruction did is what was left to be done
  abbrev pub Follows : Did → Dialogue X → Type 0
  Follows (Went spot s) p = Comes spot s p
  Follows (Reads text next) p = (tree : Tree text) → IsTree text tree → Follows (next tree) p
  Follows (Begins words spot s) p = Waits (command spot.levels s words) spot p
  Follows (Says words spot s) p = Waits (by_name spot.levels s words) spot p
  Follows (Runs text levels spot s) p =
      (tree : ScriptTree) → IsTree (ScriptText text) tree → Waits (run_by tree levels s) spot p
  Follows (Evaluates text spot s) p =
      (tree : Result Formula FormulaFault) → IsTree (FormulaText text) tree →
      Waits (value_by tree spot.levels s) spot p
  Follows (Over outcome s) p = Goes p (last s outcome)
  Follows Stuck p = ⊥

-- where something is left to be done, the instruction there does it
abbrev pub InstructionsLead : Type 0 → Type 0 → Type 0
InstructionsLead A X =
    (code : List (Instruction A)) (last : Status → Outcome → Dialogue X) (spot : Spot) (s : Status)
    (p : Dialogue X) → Here code last spot s p →
    Follows code last (machine (slice_get code spot.place) spot s) p

-- where something is left to be done, the result of several instructions does it
abbrev pub CodeLeads : Type 0 → Type 0 → Type 0
CodeLeads A X =
    (code : List (Instruction A)) (last : Status → Outcome → Dialogue X) (spot : Spot) (s : Status)
    (did : Did) (p : Dialogue X) → Here code last spot s p → Arrives code spot s did →
    Follows code last did p

-- a script of which nothing is done yet is left to be done where its code begins, with the empty
-- text on top
abbrev pub ScriptsBegin : Type 0 → Type 0 → Type 0
ScriptsBegin A X =
    (code : List (Instruction A)) (last : Status → Outcome → Dialogue X) (tree : ScriptTree)
    (levels : ℕ) (s : Status) → ScriptAt code 0 tree.commands tree.fault (length code) →
    levels ≤ 255 →
    Here code last (beginning_at levels) s
    (and_then (plan_of (Script tree levels) s) (onward last))

-- a formula of which nothing is done yet is left to be done where its code begins, without operands
abbrev pub FormulasBegin : Type 0 → Type 0 → Type 0
FormulasBegin A X =
    (code : List (Instruction A)) (last : Status → Outcome → Dialogue X) (f : Formula)
    (levels : ℕ) (s : Status) → FormulaAt code 0 f (length code) → levels ≤ 255 →
    Here code last
    (record { place = 0; operands = []; marks = []; levels = levels; handlers = [] }) s
    (and_then (evaluated levels f s (λ t value. gives value t)) (onward last))
