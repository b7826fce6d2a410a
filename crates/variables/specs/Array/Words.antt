-- What the subcommands of array ask of their words.
use Rattle.std.specs.Prelude.{ℕ, List, [], ◌∷◌, codes, Bool, true, false, Option, Some, None, Result, Ok, Err}
use Rattle.acts.specs.Flaw as flaw
use Rattle.acts.specs.Flaw.{Flaw}
use Rattle.kinds.specs.Readings.{Done, Reading, Found}
use Rattle.tclstate.specs.Scopes.{Scopes, Trouble, IsArray}

-- another number of words than array takes (array(n))
abbrev pub wrong_words : Scopes → Reading (Done Scopes)
wrong_words v = Found (v, Err (flaw.WrongArgs (codes "array")))

-- the word that names an array, where it stands alone (array(n), array exists and array size)
abbrev pub one_word : List (List ℕ) → Result (List ℕ) Flaw
one_word (n ∷ []) = Ok n
one_word _ = Err (flaw.WrongArgs (codes "array"))

-- continues with the word of an array, and a pattern where one stands after the word (array(n),
-- array names)
abbrev pub with_pattern : List (List ℕ) → Scopes →
    (List ℕ → Option (List ℕ) → Reading (Done Scopes)) → Reading (Done Scopes)
with_pattern (n ∷ []) v next = next n None
with_pattern (n ∷ w ∷ []) v next = next n (Some w)
with_pattern _ v next = wrong_words v

-- an array is what can't be read as a whole because it is one; an element is none (set(n))
abbrev pub is_array : Result (List ℕ) Trouble → Bool
is_array (Err IsArray) = true
is_array _ = false
