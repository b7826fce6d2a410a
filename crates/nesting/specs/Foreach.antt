-- What foreach does.
use Rattle.std.specs.Prelude.{ℕ, zero, suc, ◌==◌, ◌&&◌, nat_le, Bool, List, [], ◌∷◌, ◌++◌, length, map, max, codes, is_some, if◌then◌else◌, ◌%◌, drop, flat_map}
use Rattle.state.specs.Prelude.{Reads, Course, gives, raises, inside, ScriptText, ScriptTree, Status}
use Rattle.std.specs.Int.{div_ceil}
use Rattle.std.specs.List.{list_all}
use Rattle.acts.specs.Flaw as flaw
use Rattle.state.specs.Listed.{with_list}
use Rattle.state.specs.Turn.{on_turn}
use Rattle.state.specs.Dialogue.{tick}
use Rattle.state.specs.Variables.{with_name, writes}
use Rattle.tclparse.specs.Variable.{named}

-- variables, and the elements that they are still to take (foreach(n))
pub record Pair : Type 0 where
  pub names : List (List ℕ)
  pub elements : List (List ℕ)

-- the first element; the empty text where the list has ended (foreach(n))
abbrev pub first_of : List (List ℕ) → List ℕ
first_of [] = []
first_of (e ∷ es) = e

-- each variable takes the next element (foreach(n))
abbrev pub dealt : List (List ℕ) → List (List ℕ) → List (List ℕ × List ℕ)
dealt [] elements = []
dealt (n ∷ ns) elements = (n, first_of elements) ∷ dealt ns (drop 1 elements)

-- a pair after a turn, in which each of its variables took an element (foreach(n))
abbrev pub behind : Pair → Pair
behind p = record { names = p.names; elements = drop (length p.names) p.elements }

-- what the variables of all pairs are set to in a turn (foreach(n))
abbrev pub row : List Pair → List (List ℕ × List ℕ)
row pairs = flat_map (λ p. dealt p.names p.elements) pairs

-- what the variables of all pairs are set to in each of this many turns
abbrev pub rows : ℕ → List Pair → List (List (List ℕ × List ℕ))
rows zero pairs = []
rows (suc turns) pairs = row pairs ∷ rows turns (map behind pairs)

-- how many turns a pair asks for: enough for its variables to take all elements (foreach(n))
abbrev pub asked : Pair → ℕ
asked p = div_ceil (length p.elements) (length p.names)

-- there are as many turns as the pair asks for that asks for the most (foreach(n))
abbrev pub most_asked : List Pair → ℕ
most_asked [] = 0
most_asked (p ∷ pairs) = max (asked p) (most_asked pairs)

-- a variable is set, and the script continues where it could be set (set(n))
abbrev pub assigned : List ℕ → List ℕ → Status → (Status → Course) → Course
assigned word value s next = with_name word s (λ name index. writes name index value s next)

-- variables are set in turn, up to the first error (foreach(n))
abbrev pub assigns : List (List ℕ × List ℕ) → Status → (Status → Course) → Course
assigns [] s next = next s
assigns (first ∷ more) s next = assigned first.0 first.1 s (λ t. assigns more t next)

-- each turn sets its variables, takes a tick and runs the body; the value is empty (foreach(n); the
-- tick is this project's own rule)
abbrev pub turns : ℕ → ScriptTree → List (List (List ℕ × List ℕ)) → Status → Course
turns levels body [] s = gives [] s
turns levels body (first ∷ more) s = assigns first s (λ t. tick t (λ u.
    inside levels body u (on_turn (turns levels body more))))

-- the turns that the pairs ask for, with the body, which is read once (foreach(n))
abbrev pub begins : ℕ → Status → List Pair → List ℕ → Course
begins levels s pairs body =
    Reads (ScriptText body) (λ tree. turns levels tree (rows (most_asked pairs) pairs) s)

-- the names are used where there is at least one and each names a variable (foreach(n); set(n))
abbrev pub on_names : List ℕ → List (List ℕ) → Status → (List (List ℕ) → Course) → Course
on_names word [] s next = raises (flaw.BadArgument word (codes "foreach")) s
on_names word (n ∷ ns) s next =
    if list_all (λ w. is_some (named w)) (n ∷ ns) then next (n ∷ ns)
    else raises flaw.BadVariable s

-- a word is read as the list of some variables (foreach(n))
abbrev pub with_names : List ℕ → Status → (List (List ℕ) → Course) → Course
with_names word s next = with_list word s (λ names. on_names word names s next)

-- two words are read: one as the variables, one as the list of their elements (foreach(n))
abbrev pub with_pair : List ℕ → List ℕ → Status → (Pair → Course) → Course
with_pair variables list s next = with_names variables s (λ names.
    with_list list s (λ elements. next (record { names = names; elements = elements })))

-- another number of words than foreach takes (foreach(n))
abbrev pub wrong_words : Status → Course
wrong_words s = raises (flaw.WrongArgs (codes "foreach")) s

-- the words are read from left to right, after the pairs so far; the last one is the body
-- (foreach(n))
abbrev pub with_pairs : List (List ℕ) → List Pair → Status → (List Pair → List ℕ → Course) → Course
with_pairs [] pairs s next = wrong_words s
with_pairs (body ∷ []) pairs s next = next pairs body
with_pairs (variables ∷ list ∷ more) pairs s next =
    with_pair variables list s (λ pair. with_pairs more (pairs ++ pair ∷ []) s next)

-- at least one pair of words, and the body (foreach(n))
abbrev pub is_taken : ℕ → Bool
is_taken count = nat_le 3 count && (count % 2 == 1)

-- foreach vars list ?vars list ..? body (foreach(n))
abbrev pub foreach : ℕ → List (List ℕ) → Status → Course
foreach levels args s =
    if is_taken (length args) then with_pairs args [] s (begins levels s) else wrong_words s
