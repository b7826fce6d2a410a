-- What a pattern takes of a text, and what a search for it finds.
use Rattle.std.specs.Prelude.{◌≡◌, ℕ, ◌≤◌, Bool, IsTrue, List, [], ◌∷◌, ◌++◌, length, map, Contains, slice_range, if◌then◌else◌}
use Rattle.std.specs.Char.{to_ascii_lowercase}
use Rattle.patterns.specs.Item.{Item, literal, any_byte, one_of, any_run, Reading}

-- t is a piece that the item takes (string(n), match).
abbrev pub IsPiece : Item → List ℕ → Type 0
IsPiece (literal c) t = t ≡ c ∷ []
IsPiece any_byte t = (b : ℕ) × (t ≡ b ∷ [])
IsPiece (one_of bytes) t = (b : ℕ) × (t ≡ b ∷ []) × Contains bytes b
IsPiece any_run t = Unit {0}

-- t consists of pieces, one for each item in order (string(n), match).
abbrev pub Whole : List Item → List ℕ → Type 0
Whole [] t = t ≡ []
Whole (item ∷ items) t =
    (piece rest : List ℕ) × (t ≡ piece ++ rest) × IsPiece item piece × Whole items rest

-- The bytes as they compare: where letters are folded, each upper case ASCII letter as its lower
-- case one, every other byte as itself (expect(1), -nocase).
abbrev pub compared : Bool → List ℕ → List ℕ
compared folds t = if folds then map to_ascii_lowercase t else t

-- The pattern takes the window's bytes from s up to e, as they compare (expect(1), expect; in
-- detail this project's own rule).
pub record Sits (p : Reading) (window : List ℕ) (s e : ℕ) : Type 0 where
  pub ordered : s ≤ e
  pub within : e ≤ length window
  pub whole : Whole p.items (compared p.folds (slice_range window s e))
  pub at_start : IsTrue p.at_start → s ≡ 0
  pub at_end : IsTrue p.at_end → e ≡ length window

-- The least start, and at that start the greatest end (this project's own rule).
pub record IsFound (p : Reading) (window : List ℕ) (s e : ℕ) : Type 0 where
  pub sits : Sits p window s e
  pub least_start : (s' e' : ℕ) → Sits p window s' e' → s ≤ s'
  pub greatest_end : (e' : ℕ) → Sits p window s e' → e' ≤ e

-- The pattern sits nowhere in the window (this project's own rule).
abbrev pub SitsNowhere : Reading → List ℕ → Type 0
SitsNowhere p window = (s e : ℕ) → ¬ Sits p window s e
