-- A foreach that is being done, as the proof sees it.
use Rattle.std.specs.Prelude.{ℕ, List, [], ◌∷◌, drop, length}
use Rattle.nesting.specs.Foreach.{Pair, assigns, begins, dealt, most_asked, rows, turns}
use Rattle.state.specs.Dialogue.{tick}
use Rattle.state.specs.Listed.{with_list}
use Rattle.state.specs.Prelude.{Course, inside, ScriptTree, Status}
use Rattle.state.specs.Turn.{on_turn}

-- its variables, and its body (foreach(n))
pub record Each : Type 0 where
  pub names : List (List ℕ)
  pub body : ScriptTree

-- variables, and the elements that they are still to take (foreach(n))
abbrev pub pair_of : List (List ℕ) → List (List ℕ) → Pair
pair_of names elements = record { names = names; elements = elements }

-- its turns, where its word of elements has this value, and this is its body (foreach(n))
abbrev pub listed : ℕ → List ℕ → List (List ℕ) → List ℕ → Status → Course
listed levels list names body s =
    with_list list s (λ elements. begins levels s (pair_of names elements ∷ []) body)

-- the turns that these pairs ask for (foreach(n))
abbrev pub turns_of : ℕ → ScriptTree → List Pair → Status → Course
turns_of levels body pairs s = turns levels body (rows (most_asked pairs) pairs) s

-- the turns that are left, with these elements (foreach(n))
abbrev pub turns_left : ℕ → Each → List (List ℕ) → Status → Course
turns_left levels each elements s =
    turns_of levels each.body (pair_of each.names elements ∷ []) s

-- the rest of a turn once its variables are set, with the elements that are left after it: it takes
-- a tick, and runs the body (foreach(n))
abbrev pub body_left : ℕ → Each → List (List ℕ) → Status → Course
body_left levels each elements s =
    tick s (λ t. inside levels each.body t (on_turn (turns_left levels each elements)))

-- the rest of a turn, of which these variables are to be set, with these elements (foreach(n))
abbrev pub turn_left : ℕ → List (List ℕ) → Each → List (List ℕ) → Status → Course
turn_left levels names each elements s =
    assigns (dealt names elements) s (body_left levels each (drop (length names) elements))
