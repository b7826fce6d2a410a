-- How far a call of a procedure has come.
use Rattle.std.specs.Prelude.{◌≡◌, ℕ, List, Option, Some, None}
use Rattle.state.specs.Prelude.{Course, Outcome, Status, FitsState}
use Rattle.nesting.specs.Nesting.{Nests}
use Rattle.nesting.specs.Calls.{call}
use Rattle.nesting.specs.declared.Nesting.{Nesting}
use Rattle.state.specs.declared.state.State.{State}
use Rattle.tclstate.specs.Pairs.{found}
use Rattle.tclstate.specs.Procs.{Procedure}

-- a call of the procedure of this name has come so far
pub record Calls {A H : Type 0} (next : H → Status → Outcome → Course) (n : Nesting A H)
    (state : State A) (levels : ℕ) (name : List ℕ) (words : List (List ℕ)) (s : Status) :
    Type 0 where
  pub procedure : Procedure
  pub found : found s.procedures name ≡ Some procedure
  pub nests : Nests next n state (call levels name procedure words s)

-- the same, or no procedure has the name and nothing is done
abbrev pub IsCalled : {A H : Type 0} → (H → Status → Outcome → Course) → Option (Nesting A H) →
    State A → ℕ → List ℕ → List (List ℕ) → Status → Type 0
IsCalled next None state levels name words s =
    (found s.procedures name ≡ None) × FitsState state s
IsCalled next (Some n) state levels name words s = Calls next n state levels name words s
