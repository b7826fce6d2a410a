-- What a read of a variable's list gives in the code.
use Rattle.std.specs.Prelude.{◌≡◌, ℕ, List, Option, Result, Ok, Err}
use Rattle.state.specs.Prelude.{flaw_of, Raise, Scopes}
use Rattle.acts.specs.declared.raise.Raise.TheVariants as raise
use Rattle.kinds.specs.Readings.{ComesTo}
use Rattle.tcltext.specs.Canonical.{canonical}
use Rattle.variables.specs.Lappend.{elements_in}

-- the text of the variable's list, or the error that the variable can't be read or holds no list
abbrev pub HoldsList : {A : Type 0} → Result (List ℕ) (Raise A) → List ℕ →
    Option (List ℕ) → Scopes → Type 0
HoldsList (Ok list) name index v =
    (elements : List (List ℕ)) → list ≡ canonical elements →
    ComesTo (elements_in name index v) (Ok elements)
HoldsList (Err (raise.Fault why)) name index v =
    ComesTo (elements_in name index v) (Err (flaw_of why))
HoldsList (Err (raise.NoMemory refusal)) name index v = Unit {0}
