-- Words in braces (Tcl(n), rule 6).
use Rattle.std.specs.Prelude.{◌≡◌, ℕ, ◌==◌, List, [], ◌∷◌, false}
use Rattle.tcltext.specs.Escape.{skip_blanks}

-- IsValue v x: v is the value of the content x of a word in braces (Tcl(n), rule 6). The empty
-- content has the empty value; a byte other than a backslash gives itself, and so does a backslash
-- at the end; a backslash and any byte but a newline both stay; a backslash and a newline, with the
-- blanks and tabs after them, give one blank.
pub data IsValue : List ℕ → List ℕ → Type 0 where
  nothing : IsValue [] []
  a_byte : (c : ℕ) (v x : List ℕ) → (c == 92) ≡ false → IsValue v x → IsValue (c ∷ v) (c ∷ x)
  a_last_backslash : IsValue (92 ∷ []) (92 ∷ [])
  a_pair : (c : ℕ) (v x : List ℕ) → (c == 10) ≡ false → IsValue v x
      → IsValue (92 ∷ c ∷ v) (92 ∷ c ∷ x)
  a_continued_line : (v x : List ℕ) → IsValue v (skip_blanks x) → IsValue (32 ∷ v) (92 ∷ 10 ∷ x)
