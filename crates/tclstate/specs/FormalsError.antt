-- What the errors of a reading of formals say.
use Rattle.std.specs.Prelude.{◌≡◌, ℕ, List, IfSome}
use Rattle.memory.specs.declared.NoMemory.{NoMemory}
use Rattle.tcltext.specs.Elements.{HasFlaw}
use Rattle.tcltext.specs.Seen.{flaw_of}
use Rattle.tclstate.specs.declared.formals.FormalsError.{FormalsError}
use Rattle.tclstate.specs.declared.formals.FormalsError.TheVariants as error
use Rattle.tclstate.specs.Formals.{Formal, IsFormal, HasBadFormal}

-- The text has the fault that the error reports; memory may be refused whatever the text is
-- (proc(n); this project's own rule).
abbrev pub HasFault : FormalsError → List ℕ → Type 0
HasFault (error.NotAList f) text = IfSome (flaw_of f) (λ flaw. HasFlaw flaw text)
HasFault error.BadFormal text = HasBadFormal text
HasFault (error.NoMemory e) text = Unit {0}

-- The text is no formal, unless memory was refused (proc(n); this project's own rule).
abbrev pub IsNoFormal : FormalsError → List ℕ → Type 0
IsNoFormal (error.NotAList f) text = ⊥
IsNoFormal error.BadFormal text = (f : Formal) → IsFormal f text → ⊥
IsNoFormal (error.NoMemory e) text = Unit {0}

-- The error is want of memory, for some refusal (this project's own rule).
abbrev pub WantsMemory : FormalsError → Type 0
WantsMemory e = (refusal : NoMemory) × (e ≡ error.NoMemory refusal)
