-- The steps of reading an element that is bare or in quotes.
use Rattle.std.proofs.Common.{◌≡◌, ℕ, List, [], ◌++◌, refl, sym, subst, append-nil}
use Rattle.tcltext.specs.Style.{Style}
use Rattle.std.specs.Borrow.{Bor}
use Rattle.tcltext.specs.declared.list.element.Piece.{Piece}
use Rattle.tcltext.specs.declared.list.element.Piece.TheVariants as piece
use Rattle.tcltext.specs.Seen.{seen}
use Rattle.tcltext.specs.Elements.{Next, no_escape, next, IsSpelled}
use Rattle.tcltext.specs.Reads.{Halts, MeetsEscape}

-- Whatever bytes y spells, x spells the bytes bs before them.
abbrev pub SpelledSoFar : Style → List ℕ → List ℕ → List ℕ → Type 0
SpelledSoFar s x y bs = (t z : List ℕ) → IsSpelled s t y z → IsSpelled s (bs ++ t) x z

pub spelled_here : (s : Style) (x y bs : List ℕ) → SpelledSoFar s x y bs → IsSpelled s bs x y
spelled_here s x y bs so_far = subst (λ e. IsSpelled s e x y) (append-nil bs) (so_far [] y refl)

pub meets_escape : (s : Style) (x y bs : List ℕ) → SpelledSoFar s x y bs → no_escape ≡ next s y →
    MeetsEscape s x
meets_escape s x y bs so_far e = (bs, y, spelled_here s x y bs so_far, sym e)

-- a piece that is neither a byte nor a fault halts the reading
pub halted : (p : Piece) (n : Next) → seen p ≡ n →
    ((b : ℕ) (z : Bor (List ℕ)) → p ≡ piece.Byte b z → ⊥) → (p ≡ piece.NoEscape → ⊥) → Halts n
halted piece.End n e byte escape = subst Halts e tt
halted (piece.Stop z) n e byte escape = subst Halts e tt
halted (piece.Byte b z) n e byte escape = absurd (byte b z refl)
halted piece.NoEscape n e byte escape = absurd (escape refl)
