-- What the instructions do that are commands, with the value of their last word on top.
use Rattle.std.specs.Prelude.{ℕ, List, [], ◌∷◌, ◌++◌, codes, Option, Some, None, Result, Ok, Err}
use Rattle.state.specs.Prelude.{Flaw, Leaves, Return, Scopes, Status}
use Rattle.steps.specs.Handling.{fails, resumed}
use Rattle.steps.specs.Moves.{on_top, with_operands}
use Rattle.steps.specs.Spot.{Spot, Did, Went, Begins, with_top}
use Rattle.steps.specs.Storing.{storing}
use Rattle.tclparse.specs.Variable.{named}
use Rattle.tclstate.specs.Procs.{Procedure}
use Rattle.variables.specs.Append.{append}
use Rattle.variables.specs.Incr.{incr}

-- the command begins by its words, which are these and the value on top (Tcl(n), rule 2)
abbrev pub by_words : List (List ℕ) → Spot → Status → Did
by_words before spot s =
    on_top spot.operands (λ value below.
    Begins (before ++ value ∷ []) (with_operands below spot) s)

-- where a procedure hides set it begins by its words; else the variable of this name takes the
-- value on top, which stays there (set(n); proc(n))
abbrev pub setting : Option Procedure → List ℕ → Spot → Status → Did
setting None name spot s =
    on_top spot.operands (λ value below. storing (named name) value spot s)
setting (Some procedure) name spot s = by_words (codes "set" ∷ name ∷ []) spot s

-- a change of the variables and its value, which is put on top, or its error (Tcl(n), return codes)
abbrev pub changed : Result (Scopes × List ℕ) Flaw → Spot → Status → Did
changed (Ok done) spot s = Went (with_top done.1 spot) (record s { scopes = done.0 })
changed (Err flaw) spot s = fails flaw spot s

-- where a procedure hides the command it begins by these words and the value on top; else it
-- changes the variables with that value, whose place its own value takes (proc(n))
abbrev pub changing : Option Procedure → (List ℕ → Scopes → Result (Scopes × List ℕ) Flaw) →
    List (List ℕ) → Spot → Status → Did
changing None change before spot s =
    on_top spot.operands (λ value below.
    changed (change value s.scopes) (with_operands below spot) s)
changing (Some procedure) change before spot s = by_words before spot s

-- one is added to the variable of the name on top (incr(n))
abbrev pub incrementing : Option Procedure → Spot → Status → Did
incrementing procedure spot s =
    changing procedure (λ name v. incr (name ∷ []) v) (codes "incr" ∷ []) spot s

-- the number on top is added to the variable of this name (incr(n))
abbrev pub adding : Option Procedure → List ℕ → Spot → Status → Did
adding procedure name spot s =
    changing procedure (λ by v. incr (name ∷ by ∷ []) v) (codes "incr" ∷ name ∷ []) spot s

-- the text on top is put after that of the variable of this name (append(n))
abbrev pub appending : Option Procedure → List ℕ → Spot → Status → Did
appending procedure name spot s =
    changing procedure (λ text v. append (name ∷ text ∷ []) v) (codes "append" ∷ name ∷ []) spot s

-- where a procedure hides return it begins by its words; else the script is left by it with the
-- value on top (return(n); proc(n))
abbrev pub returning : Option Procedure → Spot → Status → Did
returning None spot s =
    on_top spot.operands (λ value below.
    resumed (with_operands below spot) (Leaves Return value) s)
returning (Some procedure) spot s = by_words (codes "return" ∷ []) spot s
