-- The unread part of a text is an end of the text.
use Rattle.std.specs.Prelude.{◌≡◌, ℕ, List, ◌++◌, Ok, Err}
use Rattle.tclparse.specs.Piece.{Next, end, fault, a_byte, a_name, an_index, an_element, a_bracket}
use Rattle.tclparse.specs.Grammar.{Outcome}

-- the text x is some bytes, and then z
abbrev pub Joins : List ℕ → List ℕ → Type 0
Joins x z = (s : List ℕ) × (x ≡ s ++ z)

-- the text x ends with the text after a piece of a word, if the piece has one
abbrev pub Behind : Next → List ℕ → Type 0
Behind end x = Unit {0}
Behind (fault f) x = Unit {0}
Behind (a_byte b z) x = Joins x z
Behind (a_name n z) x = Joins x z
Behind (an_index n z) x = Joins x z
Behind (an_element n i z) x = Joins x z
Behind (a_bracket z) x = Joins x z

-- the text x ends with its unread part; after a fault there is none
abbrev pub Leaves : List ℕ → Outcome → Type 0
Leaves x (Ok z) = Joins x z
Leaves x (Err f) = Unit {0}
