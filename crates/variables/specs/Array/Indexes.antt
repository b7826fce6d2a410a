-- The indexes of an array, and those of them that a pattern takes.
use Rattle.std.specs.Prelude.{ℕ, List, [], ◌∷◌, length, nat_lt, Option, Some, None, Result, Ok, Err, if◌then◌else◌}
use Rattle.acts.specs.Flaw as flaw
use Rattle.acts.specs.Flaw.{Flaw}
use Rattle.kinds.specs.Readings.{Reading, Found, Reads, and_then}
use Rattle.state.specs.Piece.{TestText}
use Rattle.tclstate.specs.Scopes.{Scopes, names_of}
use Rattle.patterns.specs.Glob.{plain}
use Rattle.patterns.specs.Item.{Item}

-- the indexes of the array that a name means, in order; where it means none, as the name of an
-- element does, there are none (array(n), array names)
abbrev pub indexes_of : Scopes → List ℕ → Option (List ℕ) → List (List ℕ)
indexes_of v name None = names_of v name
indexes_of v name (Some index) = []

-- the texts that a pattern takes, in their order; each is held against it in turn (string(n),
-- match)
abbrev pub taken : List Item → List (List ℕ) → Reading (List (List ℕ))
taken pattern [] = Found []
taken pattern (t ∷ ts) = Reads (TestText pattern t) (λ takes.
    and_then (taken pattern ts) (λ rest. Found (if takes then t ∷ rest else rest)))

-- the texts that the pattern of a word takes; a pattern has at most 1,000,000 bytes (string(n),
-- match; the limit is this project's own rule)
abbrev pub matched : List ℕ → List (List ℕ) → Reading (Result (List (List ℕ)) Flaw)
matched word texts =
    if nat_lt 1000000 (length word) then Found (Err flaw.PatternTooLong)
    else and_then (taken (plain word).items texts) (λ found. Found (Ok found))

-- the indexes of an array, all of them or those that a pattern takes (array(n), array names)
abbrev pub indexes : List ℕ → Option (List ℕ) → Option (List ℕ) → Scopes →
    Reading (Result (List (List ℕ)) Flaw)
indexes name index None v = Found (Ok (indexes_of v name index))
indexes name index (Some word) v = matched word (indexes_of v name index)
