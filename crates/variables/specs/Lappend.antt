-- What lappend does.
use Rattle.std.specs.Prelude.{ℕ, List, [], ◌∷◌, ◌++◌, codes, Option, Result, Err}
use Rattle.acts.specs.Flaw as flaw
use Rattle.state.specs.Prelude.{Flaw, Scopes}
use Rattle.kinds.specs.Readings.{Done, Reading, Found, after, carried, elements, kept, once}
use Rattle.kinds.specs.Variables.{name_in}
use Rattle.tcltext.specs.Canonical.{canonical}
use Rattle.variables.specs.Values.{puts, text_in}

-- the elements of a variable's list; a missing variable has none (lappend(n))
abbrev pub elements_in : List ℕ → Option (List ℕ) → Scopes →
    Reading (Result (List (List ℕ)) Flaw)
elements_in name index v = carried (text_in name index v) elements

-- elements are appended to those of a variable, and the whole list is given in its canonical text
-- (lappend(n))
abbrev pub extends : List ℕ → Option (List ℕ) → List (List ℕ) → Scopes → Reading (Done Scopes)
extends name index more v = once (elements_in name index v) v (λ had.
    Found (kept v (puts name index (canonical (had ++ more)) v)))

-- the same of what a word names (lappend(n))
abbrev pub appends : List ℕ → List (List ℕ) → Scopes → Reading (Done Scopes)
appends word more v = after (name_in word) v (λ n. extends n.0 n.1 more v)

-- lappend n v .. (lappend(n))
abbrev pub lappend : List (List ℕ) → Scopes → Reading (Done Scopes)
lappend [] v = Found (v, Err (flaw.WrongArgs (codes "lappend")))
lappend (w ∷ ws) v = appends w ws v
