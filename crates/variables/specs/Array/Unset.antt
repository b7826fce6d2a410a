-- What array unset does.
use Rattle.std.specs.Prelude.{ℕ, List, [], ◌∷◌, false, reverse, Option, Some, None, Ok, if◌then◌else◌}
use Rattle.kinds.specs.Readings.{Done, Reading, Found, after, once}
use Rattle.kinds.specs.Variables.{name_in}
use Rattle.tclstate.specs.Scopes.{Scopes, read}
use Rattle.variables.specs.Array.Indexes.{indexes}
use Rattle.variables.specs.Array.Words.{is_array, with_pattern}
use Rattle.variables.specs.Unset.{clears, onward}

-- the elements at these indexes are removed in turn, as unset does it (unset(n))
abbrev pub removes : List ℕ → List (List ℕ) → Scopes → Done Scopes
removes name [] v = (v, Ok [])
removes name (i ∷ is) v = onward (clears false name (Some i) v) v (removes name is)

-- an array is removed, and what is no array stays (array(n), array unset)
abbrev pub drops : List ℕ → Option (List ℕ) → Scopes → Done Scopes
drops name index v =
    if is_array (read v name index) then onward (clears false name None v) v (removes name [])
    else (v, Ok [])

-- the elements of an array whose indexes a pattern takes are removed, the last one first (array(n),
-- array unset; the order is this project's own rule)
abbrev pub removes_matched : List ℕ → Option (List ℕ) → List ℕ → Scopes → Reading (Done Scopes)
removes_matched name index word v =
    once (indexes name index (Some word) v) v (λ found. Found (removes name (reverse found) v))

-- an array is removed, or those of its elements whose indexes a pattern takes (array(n), array
-- unset)
abbrev pub unsets : List ℕ → Option (List ℕ) → Option (List ℕ) → Scopes → Reading (Done Scopes)
unsets name index None v = Found (drops name index v)
unsets name index (Some word) v = removes_matched name index word v

-- the same of what a word names (array(n), array unset)
abbrev pub unsets_named : List ℕ → Option (List ℕ) → Scopes → Reading (Done Scopes)
unsets_named word pattern v = after (name_in word) v (λ n. unsets n.0 n.1 pattern v)

-- array unset a ?w? (array(n))
abbrev pub unset : List (List ℕ) → Scopes → Reading (Done Scopes)
unset words v = with_pattern words v (λ word pattern. unsets_named word pattern v)
