-- A whole run.
use Rattle.std.specs.Prelude.{◌≡◌, ℕ, true, false, List, [], ◌∷◌, ◌++◌, length, codes, decimal}
use Rattle.state.specs.Prelude.{Deed, Reply, Reads, Calls, Dialogue, ScriptText, IsTree, Status}
use Rattle.acts.specs.History.{History, Past}
use Rattle.plan.specs.Kept.{Throughout}
use Rattle.plan.specs.Runs.{Runs}
use Rattle.runs.specs.Closing.{closing}
use Rattle.runs.specs.Ending.{Ending, Over, numbered}
use Rattle.runs.specs.Scripts.{plan_of}
use Rattle.state.specs.Piece.{Script}
use Rattle.state.specs.Rows.{Holds}
use Rattle.state.specs.View.{no_ids}
use Rattle.tclstate.specs.Scopes.{Frame, Text}
use Rattle.tcltext.specs.Canonical.{canonical}

-- the levels of evaluation below a script (Tcl(n), rule 7; interp(n), recursionlimit)
abbrev pub most_levels : ℕ
most_levels = 100

-- the name of the program, the first of the arguments (tclsh(1), variables)
abbrev pub program_of : List (List ℕ) → List ℕ
program_of [] = []
program_of (name ∷ args) = name

-- the other arguments (tclsh(1), variables)
abbrev pub others_of : List (List ℕ) → List (List ℕ)
others_of [] = []
others_of (name ∷ args) = args

-- the variables at the beginning (tclsh(1), variables; expect(1), timeout)
abbrev pub variables : List (List ℕ) → Frame
variables args =
    (codes "argv0", Text (program_of args))
    ∷ (codes "argv", Text (canonical (others_of args)))
    ∷ (codes "argc", Text (decimal (length (others_of args))))
    ∷ (codes "timeout", Text (codes "10")) ∷ []

-- the state at the beginning: the variables, no procedure, no id, arrivals are shown, no log is
-- open, and all ticks are left (expect(1), spawn, log_user and log_file)
abbrev pub initial : List (List ℕ) → ℕ → Status
initial args limit = record {
  scopes = record { locals = []; globals = variables args };
  procedures = [];
  ids = no_ids;
  log = record { user = true; logging = false; all = false };
  left = limit;
}

-- first the script, and then the run is closed
abbrev pub whole : List ℕ → List (List ℕ) → ℕ → Dialogue Over
whole text args limit =
    Reads (ScriptText text)
    (λ tree. Calls (Script tree most_levels) (initial args limit) closing)

-- a script, its arguments and a limit have a run of these acts and answers, with this end
pub record Run (text : List ℕ) (args : List (List ℕ)) (limit : ℕ) (h : History)
    (e : Ending) : Type 0 where
  pub over : Over
  pub runs : Runs plan_of IsTree (whole text args limit) h over
  pub ends : e ≡ numbered (length h) over

-- at every wait each buffer holds at most its size (expect(1), match_max)
abbrev pub HoldsThroughout : History → Type 0
HoldsThroughout h = Throughout Holds h

-- some acts and answers led the world from first to now, and are those of a run with this end
pub record Ran {W : Type 0} (Step : W → Deed → Reply → W → Type 0) (first now : W)
    (text : List ℕ) (args : List (List ℕ)) (limit : ℕ) (e : Ending) : Type 0 where
  pub history : History
  pub past : Past Step first now history
  pub run : Run text args limit history e
  pub holds : HoldsThroughout history

-- some acts and answers led the world from first to now, and a run begins with them
pub record Began {W : Type 0} (Step : W → Deed → Reply → W → Type 0) (first now : W)
    (text : List ℕ) (args : List (List ℕ)) (limit : ℕ) : Type 0 where
  pub history : History
  pub past : Past Step first now history
  pub rest : History
  pub ending : Ending
  pub run : Run text args limit (history ++ rest) ending
  pub holds : HoldsThroughout history
