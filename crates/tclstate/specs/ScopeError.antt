-- What the errors of scopes say.
use Rattle.std.specs.Prelude.{◌≡◌, Result, Err}
use Rattle.std.specs.Result.{IsOk}
use Rattle.tclstate.specs.declared.error.ScopeError.{ScopeError}
use Rattle.tclstate.specs.declared.error.ScopeError.TheVariants as error
use Rattle.tclstate.specs.Scopes.{Trouble, NoVariable, IsArray, NotArray, NoElement}

-- The error reports the trouble that there is (set(n); unset(n); array(n)).
abbrev pub HasTrouble : {X : Type 0} → ScopeError → Result X Trouble → Type 0
HasTrouble error.NoVariable r = r ≡ Err NoVariable
HasTrouble error.IsArray r = r ≡ Err IsArray
HasTrouble error.NotArray r = r ≡ Err NotArray
HasTrouble error.NoElement r = r ≡ Err NoElement
HasTrouble (error.NoMemory e) r = ⊥

-- The same for a call that takes memory; memory is refused only where there is no trouble
-- (this project's own rule).
abbrev pub HasTroubleOrRefusal : {X : Type 0} → ScopeError → Result X Trouble → Type 0
HasTroubleOrRefusal error.NoVariable r = r ≡ Err NoVariable
HasTroubleOrRefusal error.IsArray r = r ≡ Err IsArray
HasTroubleOrRefusal error.NotArray r = r ≡ Err NotArray
HasTroubleOrRefusal error.NoElement r = r ≡ Err NoElement
HasTroubleOrRefusal (error.NoMemory e) r = IsOk r
