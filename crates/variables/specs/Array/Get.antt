-- What array get does.
use Rattle.std.specs.Prelude.{ℕ, List, [], ◌∷◌, Option, Some, Result, Ok}
use Rattle.state.specs.Prelude.{Flaw, bind, Scopes}
use Rattle.kinds.specs.Readings.{Done, Reading, Found, after, once}
use Rattle.kinds.specs.Variables.{name_in, value_of}
use Rattle.tcltext.specs.Canonical.{canonical}
use Rattle.variables.specs.Array.Indexes.{indexes}
use Rattle.variables.specs.Array.Words.{with_pattern}

-- each index and the value of its element, which are read in turn (array(n), array get; set(n))
abbrev pub values : List ℕ → List (List ℕ) → Scopes → Result (List (List ℕ)) Flaw
values name [] v = Ok []
values name (i ∷ is) v = bind (value_of name (Some i) v) (λ value.
    bind (values name is v) (λ rest. Ok (i ∷ value ∷ rest)))

-- the list of these indexes with their values (array(n), array get)
abbrev pub list_values : List ℕ → List (List ℕ) → Scopes → Result (List ℕ) Flaw
list_values name indexes v = bind (values name indexes v) (λ elements. Ok (canonical elements))

-- the list of an array's indexes and values, or of those whose indexes a pattern takes (array(n),
-- array get)
abbrev pub lists : List ℕ → Option (List ℕ) → Option (List ℕ) → Scopes → Reading (Done Scopes)
lists name index pattern v =
    once (indexes name index pattern v) v (λ found. Found (v, list_values name found v))

-- the same of what a word names (array(n), array get)
abbrev pub lists_named : List ℕ → Option (List ℕ) → Scopes → Reading (Done Scopes)
lists_named word pattern v = after (name_in word) v (λ n. lists n.0 n.1 pattern v)

-- array get a ?w? (array(n))
abbrev pub get : List (List ℕ) → Scopes → Reading (Done Scopes)
get words v = with_pattern words v (λ word pattern. lists_named word pattern v)
