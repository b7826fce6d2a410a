-- Text whose braces pair up (Tcl(n), rule 6).
use Rattle.std.specs.Prelude.{◌≡◌, ℕ, ◌==◌, ◌||◌, List, [], ◌∷◌, ◌++◌, Bool, false}

-- The bytes that count in braces: a backslash and the two braces (Tcl(n), rule 6).
abbrev pub is_brace_byte : ℕ → Bool
is_brace_byte c = (c == 92) || ((c == 123) || (c == 125))

-- A text whose braces pair up: the empty text; a byte that does not count in braces, or a backslash
-- with the byte after it, and then a text whose braces pair up; a pair of braces around one such
-- text, and then another (Tcl(n), rule 6).
pub data IsBalanced : List ℕ → Type 0 where
  nothing : IsBalanced []
  a_byte : (c : ℕ) (x : List ℕ) → is_brace_byte c ≡ false → IsBalanced x → IsBalanced (c ∷ x)
  a_pair : (c : ℕ) (x : List ℕ) → IsBalanced x → IsBalanced (92 ∷ c ∷ x)
  a_group : (x y : List ℕ) → IsBalanced x → IsBalanced y → IsBalanced (123 ∷ x ++ 125 ∷ y)

-- After an open brace the text is this content, the brace that pairs up, and this rest
-- (Tcl(n), rule 6).
abbrev pub IsPaired : List ℕ → List ℕ → List ℕ → Type 0
IsPaired text content rest = (text ≡ content ++ 125 ∷ rest) × IsBalanced content
