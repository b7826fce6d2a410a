-- What a list is, by the spellings of its elements (Tcl_SplitList(3)).
use Rattle.std.specs.Prelude.{◌≡◌, ℕ, ◌<◌, ◌==◌, ◌&&◌, not, List, [], ◌∷◌, ◌++◌, length, Bool, true, ◌⊎◌}
use Rattle.tcltext.specs.Style.{Style, up_to_white, up_to_quote}
use Rattle.tcltext.specs.White.{skip_white, ends_element}
use Rattle.tcltext.specs.Balanced.{IsBalanced}
use Rattle.tcltext.specs.Elements.{a_byte, next}

-- With y after it, p stands for the byte b: as the byte itself, or as an escape (Tcl(n), rule 9).
abbrev pub IsPiece : Style → ℕ → List ℕ → List ℕ → Type 0
IsPiece s b p y = next s (p ++ y) ≡ a_byte b y

-- With z after it, t consists of pieces that stand for the bytes e, in order (Tcl_SplitList(3)).
abbrev pub ArePieces : Style → List ℕ → List ℕ → List ℕ → Type 0
ArePieces s [] t z = t ≡ []
ArePieces s (b ∷ e) t z = (p q : List ℕ) × (t ≡ p ++ q) × IsPiece s b p (q ++ z) × ArePieces s e q z

-- A bare element begins with no open brace and no quote (Tcl_SplitList(3)).
abbrev pub begins_bare : List ℕ → Bool
begins_bare [] = true
begins_bare (c ∷ x) = not (c == 123) && not (c == 34)

-- With z after it, t spells the element e: in braces as it stands, in quotes, or bare
-- (Tcl_SplitList(3)).
abbrev pub IsSpelling : List ℕ → List ℕ → List ℕ → Type 0
IsSpelling e t z =
    ((t ≡ 123 ∷ (e ++ 125 ∷ [])) × IsBalanced e) ⊎ (
    ((q : List ℕ) × (t ≡ 34 ∷ (q ++ 34 ∷ [])) × ArePieces up_to_quote e q (34 ∷ z)) ⊎
    ((begins_bare t ≡ true) × (0 < length e) × ArePieces up_to_white e t z))

-- x consists of spellings of the elements v with white space before, between and after them
-- (Tcl_SplitList(3)).
abbrev pub AreSpellings : List (List ℕ) → List ℕ → Type 0
AreSpellings [] x = skip_white x ≡ []
AreSpellings (e ∷ v) x =
    (w t z : List ℕ) × (x ≡ w ++ (t ++ z)) × (skip_white w ≡ []) × IsSpelling e t z
    × (ends_element z ≡ true) × AreSpellings v z
