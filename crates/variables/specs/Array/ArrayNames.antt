-- What array names does.
use Rattle.std.specs.Prelude.{ℕ, List, Option, Ok}
use Rattle.kinds.specs.Readings.{Done, Reading, Found, after, once}
use Rattle.kinds.specs.Variables.{name_in}
use Rattle.tclstate.specs.Scopes.{Scopes}
use Rattle.tcltext.specs.Canonical.{canonical}
use Rattle.variables.specs.Array.Indexes.{indexes}
use Rattle.variables.specs.Array.Words.{with_pattern}

-- the list of an array's indexes, or of those that a pattern takes (array(n), array names)
abbrev pub lists : List ℕ → Option (List ℕ) → Option (List ℕ) → Scopes → Reading (Done Scopes)
lists name index pattern v =
    once (indexes name index pattern v) v (λ found. Found (v, Ok (canonical found)))

-- the same of what a word names (array(n), array names)
abbrev pub lists_named : List ℕ → Option (List ℕ) → Scopes → Reading (Done Scopes)
lists_named word pattern v = after (name_in word) v (λ n. lists n.0 n.1 pattern v)

-- array names a ?w? (array(n))
abbrev pub names : List (List ℕ) → Scopes → Reading (Done Scopes)
names words v = with_pattern words v (λ word pattern. lists_named word pattern v)
