-- What the results of the code say.
use Rattle.std.specs.Prelude.{◌≡◌, ℕ, List, Option, Some, None, Result, Ok, Err}
use Rattle.acts.specs.Flaw.{Flaw, flaw_of}
use Rattle.acts.specs.declared.raise.Raise.{Raise}
use Rattle.acts.specs.declared.raise.Raise.TheVariants as raise
use Rattle.meanings.specs.Meaning.{Meaning, Splits, Comes}

-- the answer is the one that the meaning yields, except where memory was refused (this project's
-- own rule)
abbrev pub Answers : {A : Type 0} → Meaning → Result (List ℕ) (Raise A) → Type 0
Answers meaning (Ok value) = Comes meaning (Ok value)
Answers meaning (Err (raise.Fault why)) = Comes meaning (Err (flaw_of why))
Answers meaning (Err (raise.NoMemory refusal)) = Unit {0}

-- the fault is this error, except where memory was refused (this project's own rule)
abbrev pub Tells : {A : Type 0} → Raise A → Option Flaw → Type 0
Tells (raise.Fault why) told = told ≡ Some (flaw_of why)
Tells (raise.NoMemory refusal) told = told ≡ None

-- the fault is the answer, whatever would follow the elements of the text (Tcl_SplitList(3))
abbrev pub IsNoList : {A : Type 0} → List ℕ → Raise A → Type 0
IsNoList text fault = (next : List (List ℕ) → Meaning) → Answers (Splits text next) (Err fault)
