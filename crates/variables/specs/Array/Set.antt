-- What array set does.
use Rattle.std.specs.Prelude.{ℕ, ◌%◌, ◌==◌, List, [], ◌∷◌, length, codes, Option, Some, None, Result, Ok, Err, if◌then◌else◌}
use Rattle.acts.specs.Flaw as flaw
use Rattle.state.specs.Prelude.{Flaw, bind, Scopes}
use Rattle.kinds.specs.Readings.{Done, Reading, Found, after, elements, once}
use Rattle.kinds.specs.Variables.{name_in, put, untroubled}
use Rattle.tclstate.specs.Scopes.{with_array}
use Rattle.variables.specs.Array.Words.{wrong_words}
use Rattle.variables.specs.Unset.{onward}

-- elements are written in turn, each by its index and its value (array(n), array set; set(n))
abbrev pub writes_all : List ℕ → List (List ℕ) → Scopes → Done Scopes
writes_all name [] v = (v, Ok [])
writes_all name (i ∷ []) v = (v, Ok [])
writes_all name (i ∷ value ∷ rest) v =
    onward (put name (Some i) value v) v (writes_all name rest)

-- a name is made an array; what is an array already stays as it is (array(n), array set)
abbrev pub made : List ℕ → Scopes → Result Scopes Flaw
made name v = untroubled (with_array v name) name

-- the same, and elements are written (array(n), array set)
abbrev pub fills : List ℕ → List (List ℕ) → Scopes → Done Scopes
fills name elements v = onward (made name v) v (writes_all name elements)

-- the same of a list, which pairs each index with its value (array(n), array set)
abbrev pub fills_evenly : List ℕ → List ℕ → List (List ℕ) → Scopes → Done Scopes
fills_evenly name list elements v =
    if length elements % 2 == 0 then fills name elements v
    else (v, Err (flaw.BadArgument list (codes "array")))

-- the name of an array: an element is no array, and no array has the empty name (array(n), array
-- set; the empty name is this project's own rule)
abbrev pub array_said : List ℕ → List ℕ → Option (List ℕ) → Result (List ℕ) Flaw
array_said word [] index = Err flaw.BadVariable
array_said word (b ∷ name) (Some index) = Err (flaw.NotArray word)
array_said word (b ∷ name) None = Ok (b ∷ name)

-- the array that a word names (array(n), array set)
abbrev pub array_in : List ℕ → Result (List ℕ) Flaw
array_in word = bind (name_in word) (λ n. array_said word n.0 n.1)

-- the elements of a list are set in an array (array(n), array set)
abbrev pub sets_list : List ℕ → List ℕ → Scopes → Reading (Done Scopes)
sets_list name list v =
    once (elements list) v (λ found. Found (fills_evenly name list found v))

-- the same of what a word names; the word comes before the list (array(n), array set)
abbrev pub sets : List ℕ → List ℕ → Scopes → Reading (Done Scopes)
sets word list v = after (array_in word) v (λ name. sets_list name list v)

-- array set a l (array(n))
abbrev pub set : List (List ℕ) → Scopes → Reading (Done Scopes)
set (n ∷ l ∷ []) v = sets n l v
set _ v = wrong_words v
