-- A command that changes the variables, and gives a value, as one instruction.
use Rattle.std.proofs.Common.{◌≡◌, ◌∙◌, ℕ, List, ◌∷◌, Option, None, Result, Ok, Err, sym, ap, subst}
use Rattle.acts.specs.declared.raise.Raise.{Raise}
use Rattle.acts.specs.declared.raise.Raise.TheVariants as raise
use Rattle.kinds.specs.Answers.{Keeps, Stores}
use Rattle.state.specs.Prelude.{Flaw, Scopes, Status}
use Rattle.steps.specs.Direct.{changed, changing}
use Rattle.steps.specs.Moves.{on_top, with_operands}
use Rattle.steps.specs.Spot.{Did, Spot}
use Rattle.tclstate.specs.Procs.{Procedure}

-- where memory was refused less may be said
pub stores_keep : {A : Type 0} (meant : Result (Scopes × List ℕ) Flaw) (old : Scopes)
    (answer : Result (List ℕ) (Raise A)) (new : Scopes) → Stores meant old answer new →
    Keeps meant old answer new
stores_keep meant old (Ok value) new is = is
stores_keep meant old (Err (raise.Fault why)) new is = is
stores_keep meant old (Err (raise.NoMemory refusal)) new is = tt

-- no procedure hides the command, and its last word was taken off
pub changes : (procedure : Option Procedure)
    (change : List ℕ → Scopes → Result (Scopes × List ℕ) Flaw) (before : List (List ℕ))
    (spot : Spot) (s : Status) (value : List ℕ) (below : List (List ℕ)) (did : Did) →
    procedure ≡ None → spot.operands ≡ value ∷ below →
    did ≡ changed (change value s.scopes) (with_operands below spot) s →
    did ≡ changing procedure change before spot s
changes procedure change before spot s value below did none top is =
    subst (λ p. did ≡ changing p change before spot s) (sym none)
    (is ∙ sym (ap (λ os. on_top os (λ v rest.
    changed (change v s.scopes) (with_operands rest spot) s)) top))
