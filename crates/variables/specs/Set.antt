-- What set does.
use Rattle.std.specs.Prelude.{ℕ, List, [], ◌∷◌, codes, Result, Ok, Err}
use Rattle.acts.specs.Flaw as flaw
use Rattle.state.specs.Prelude.{Flaw, bind, Scopes}
use Rattle.kinds.specs.Variables.{name_in, value_of}
use Rattle.variables.specs.Values.{puts}

-- the value of what a word names (set(n))
abbrev pub get : List ℕ → Scopes → Result (List ℕ) Flaw
get word v = bind (name_in word) (λ n. value_of n.0 n.1 v)

-- what a word names is written, and its value given (set(n))
abbrev pub put : List ℕ → List ℕ → Scopes → Result (Scopes × List ℕ) Flaw
put word value v = bind (name_in word) (λ n. puts n.0 n.1 value v)

-- set n ?v? (set(n))
abbrev pub set : List (List ℕ) → Scopes → Result (Scopes × List ℕ) Flaw
set (n ∷ []) v = bind (get n v) (λ value. Ok (v, value))
set (n ∷ value ∷ []) v = put n value v
set _ v = Err (flaw.WrongArgs (codes "set"))
