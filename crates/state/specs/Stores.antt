-- What the calls on variables answer.
use Rattle.std.specs.Prelude.{◌≡◌, ℕ, List, Option, Result, Ok, Err}
use Rattle.acts.specs.declared.fault.Fault.{Fault}
use Rattle.acts.specs.Flaw.{flaw_of}
use Rattle.tclstate.specs.declared.error.ScopeError.{ScopeError}
use Rattle.tclstate.specs.declared.error.ScopeError.TheVariants as error
use Rattle.tclstate.specs.Scopes.{NoVariable, IsArray, NotArray, NoElement}
use Rattle.state.specs.declared.state.State.{State}
use Rattle.state.specs.Dialogue.{Course, raises}
use Rattle.state.specs.Status.{Status}
use Rattle.state.specs.Variables.{spelled, flaw_of_trouble, writes}
use Rattle.state.specs.View.{FitsState}

-- the fault is the script's error for the trouble with a variable; refused memory is no such
-- trouble
abbrev pub IsTold : {A : Type 0} → Fault A → ScopeError → List ℕ → Option (List ℕ) → Type 0
IsTold fault error.NoVariable name index =
    flaw_of fault ≡ flaw_of_trouble NoVariable (spelled name index)
IsTold fault error.IsArray name index =
    flaw_of fault ≡ flaw_of_trouble IsArray (spelled name index)
IsTold fault error.NotArray name index =
    flaw_of fault ≡ flaw_of_trouble NotArray (spelled name index)
IsTold fault error.NoElement name index =
    flaw_of fault ≡ flaw_of_trouble NoElement (spelled name index)
IsTold fault (error.NoMemory refusal) name index = ⊥

-- the variable is written, and what follows continues in the state after the write
pub record Written {A : Type 0} (state : State A) (s : Status)
    (name : List ℕ) (index : Option (List ℕ)) (value : List ℕ) : Type 0 where
  pub fits : FitsState state (record s { scopes = state.scopes })
  pub same : (next : Status → Course) →
      writes name index value s next ≡ next (record s { scopes = state.scopes })

-- the variable is not written, and the script has this error
pub record Unwritten {A : Type 0} (fault : Fault A) (state : State A) (s : Status)
    (name : List ℕ) (index : Option (List ℕ)) (value : List ℕ) : Type 0 where
  pub fits : FitsState state s
  pub same : (next : Status → Course) → writes name index value s next ≡ raises (flaw_of fault) s

-- a write has ended in one of these two ways (set(n))
abbrev pub Stores : {A T : Type 0} → Result T (Fault A) →
    State A → Status → List ℕ → Option (List ℕ) → List ℕ → Type 0
Stores (Ok done) state s name index value = Written state s name index value
Stores (Err fault) state s name index value = Unwritten fault state s name index value
