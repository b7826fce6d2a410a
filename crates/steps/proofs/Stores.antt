-- The results of writing a variable.
use Rattle.std.proofs.Common.{◌≡◌, ◌∙◌, ℕ, List, Option, Some, None, Ok, Err, sym, ap}
use Rattle.acts.specs.Flaw as acts
use Rattle.state.specs.Prelude.{Fault, flaw_of, Scopes, Status}
use Rattle.state.specs.Stores.{IsTold}
use Rattle.state.specs.Variables.{flaw_of_trouble, spelled}
use Rattle.steps.specs.Handling.{fails}
use Rattle.steps.specs.Spot.{Spot, Went}
use Rattle.steps.specs.Storing.{on_written, storing}
use Rattle.tclstate.specs.ScopeError.{HasTroubleOrRefusal}
use Rattle.tclstate.specs.Scopes.{Trouble, written}
use Rattle.tclstate.specs.declared.error.ScopeError.{ScopeError}
use Rattle.tclstate.specs.declared.error.ScopeError.TheVariants as error

-- a variable was written
pub was_written : (n : Option (List ℕ × Option (List ℕ))) (name : List ℕ) (index : Option (List ℕ))
    (value : List ℕ) (spot : Spot) (s : Status) (scopes : Scopes) → n ≡ Some (name, index) →
    written s.scopes name index value ≡ Ok scopes →
    Went spot (record s { scopes = scopes }) ≡ storing n value spot s
was_written n name index value spot s scopes is done =
    sym (ap (λ m. storing m value spot s) is
    ∙ ap (λ r. on_written r (spelled name index) spot s (λ t. Went spot t)) done)

-- a word names no variable
pub was_unnamed : (n : Option (List ℕ × Option (List ℕ))) (value : List ℕ) (spot : Spot)
    (s : Status) → n ≡ None → fails acts.BadVariable spot s ≡ storing n value spot s
was_unnamed n value spot s none = sym (ap (λ m. storing m value spot s) none)

troubled : (n : Option (List ℕ × Option (List ℕ))) (name : List ℕ) (index : Option (List ℕ))
    (value : List ℕ) (spot : Spot) (s : Status) (trouble : Trouble) (flaw : acts.Flaw) →
    n ≡ Some (name, index) → written s.scopes name index value ≡ Err trouble →
    flaw ≡ flaw_of_trouble trouble (spelled name index) →
    fails flaw spot s ≡ storing n value spot s
troubled n name index value spot s trouble flaw is wrong told =
    ap (λ f. fails f spot s) told
    ∙ sym (ap (λ m. storing m value spot s) is
    ∙ ap (λ r. on_written r (spelled name index) spot s (λ t. Went spot t)) wrong)

-- a variable could not be written
pub was_unwritten : {A : Type 0} (n : Option (List ℕ × Option (List ℕ))) (name : List ℕ)
    (index : Option (List ℕ)) (value : List ℕ) (spot : Spot) (s : Status) (why : ScopeError)
    (fault : Fault A) → n ≡ Some (name, index) →
    HasTroubleOrRefusal why (written s.scopes name index value) → IsTold fault why name index →
    fails (flaw_of fault) spot s ≡ storing n value spot s
was_unwritten n name index value spot s error.NoVariable fault is wrong told =
    troubled n name index value spot s _ (flaw_of fault) is wrong told
was_unwritten n name index value spot s error.IsArray fault is wrong told =
    troubled n name index value spot s _ (flaw_of fault) is wrong told
was_unwritten n name index value spot s error.NotArray fault is wrong told =
    troubled n name index value spot s _ (flaw_of fault) is wrong told
was_unwritten n name index value spot s error.NoElement fault is wrong told =
    troubled n name index value spot s _ (flaw_of fault) is wrong told
was_unwritten n name index value spot s (error.NoMemory e) fault is wrong told = absurd told
