-- What append does.
use Rattle.std.specs.Prelude.{ℕ, List, ◌∷◌, ◌++◌, codes, Option, Result, Err}
use Rattle.std.specs.List.{concat}
use Rattle.acts.specs.Flaw as flaw
use Rattle.state.specs.Prelude.{Flaw, bind, Scopes}
use Rattle.kinds.specs.Variables.{name_in}
use Rattle.variables.specs.Values.{puts, text_in}

-- a text is appended to that of a variable, and the whole is given; a missing variable counts as
-- empty (append(n))
abbrev pub extends : List ℕ → Option (List ℕ) → List ℕ → Scopes →
    Result (Scopes × List ℕ) Flaw
extends name index more v =
    bind (text_in name index v) (λ text. puts name index (text ++ more) v)

-- texts are appended to what a word names (append(n))
abbrev pub appends : List ℕ → List (List ℕ) → Scopes → Result (Scopes × List ℕ) Flaw
appends word texts v = bind (name_in word) (λ n. extends n.0 n.1 (concat texts) v)

-- append n v .. (append(n))
abbrev pub append : List (List ℕ) → Scopes → Result (Scopes × List ℕ) Flaw
append (n ∷ t ∷ ts) v = appends n (t ∷ ts) v
append _ v = Err (flaw.WrongArgs (codes "append"))
