-- What array size does.
use Rattle.std.specs.Prelude.{ℕ, List, Option, Some, None, Result, Ok, decimal}
use Rattle.state.specs.Prelude.{Flaw, bind, Scopes}
use Rattle.kinds.specs.Variables.{name_in}
use Rattle.tclstate.specs.Scopes.{size_of}
use Rattle.variables.specs.Array.Words.{one_word}

-- the number of an array's elements, 0 for what is no array, as an element (array(n), array size)
abbrev pub count_of : Scopes → List ℕ → Option (List ℕ) → ℕ
count_of v name None = size_of v name
count_of v name (Some index) = 0

-- how many elements the array has that a word names (array(n), array size)
abbrev pub counts : List ℕ → Scopes → Result (List ℕ) Flaw
counts word v = bind (name_in word) (λ n. Ok (decimal (count_of v n.0 n.1)))

-- array size a (array(n))
abbrev pub size : List (List ℕ) → Scopes → Result (List ℕ) Flaw
size words v = bind (one_word words) (λ word. counts word v)
