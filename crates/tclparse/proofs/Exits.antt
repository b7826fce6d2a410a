-- Where a reader stops early: where memory was refused each clause holds, and a fault is passed on.
use Rattle.std.proofs.Common.{◌≡◌, ℕ, List, Result, Ok, Err, IsErrAnd}
use Rattle.std.proofs.lemmas.Result.{err_from_is_err_and}
use Rattle.tclparse.specs.Context.{Context}
use Rattle.tclparse.specs.Reads.{Read, ReadsBraced}
use Rattle.tclparse.specs.declared.error.ReadError.{ReadError}
use Rattle.tclparse.specs.declared.error.ReadError.TheVariants.{Memory, Fault}
use Rattle.tclparse.specs.Error.{IsMemory}
use Rattle.memory.specs.declared.NoMemory.{NoMemory}
use Rattle.tclparse.specs.declared.tree.Part.{Part}

pub at_memory : {T : Type 0} (r : Result T ReadError) (P : Result T ReadError → Type 0)
    → IsErrAnd r IsMemory → ((refusal : NoMemory) → P (Err (Memory refusal))) → P r
at_memory (Ok x) P h p = absurd h
at_memory (Err (Fault fault)) P h p = absurd h
at_memory (Err (Memory refusal)) P h p = p refusal

pub memory_braced : {A : Type 0} (n : Context) (x : List ℕ) (r : Read A (Part A)) →
    IsErrAnd r IsMemory → ReadsBraced n x r
memory_braced n x r h = at_memory r (ReadsBraced n x) h (λ _. tt)

pub passed_on : {T E : Type 0} (r : Result T E) (e : E) → IsErrAnd r (λ y. y ≡ e) → r ≡ Err e
passed_on r e h = let q = err_from_is_err_and r h in rw q.2 at q.1
