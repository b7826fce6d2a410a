-- Which errors of scopes unset passes over.
use Rattle.std.specs.Prelude.{Bool, true, false}
use Rattle.tclstate.specs.declared.error.ScopeError.{ScopeError}
use Rattle.tclstate.specs.declared.error.ScopeError.TheVariants as error

-- the variable or the element is missing
abbrev pub is_missing : ScopeError → Bool
is_missing error.NoVariable = true
is_missing error.NoElement = true
is_missing _ = false
