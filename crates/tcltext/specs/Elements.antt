-- Which list a text is, and which flaw comes first in a text that is none (Tcl_SplitList(3)).
use Rattle.std.specs.Prelude.{◌≡◌, ℕ, ◌<◌, ◌==◌, List, [], ◌∷◌, length, ◌⊎◌, Option, Some, None, Result, Ok, Err, if◌then◌else◌}
use Rattle.tcltext.specs.declared.escape.EscapeNotHere.{EscapeNotHere}
use Rattle.tcltext.specs.Flaw.{Flaw, open_brace, open_quote, after_brace, after_quote, escape_not_here}
use Rattle.tcltext.specs.Style.{Style, up_to_white, up_to_quote, stops}
use Rattle.tcltext.specs.White.{skip_white, ends_element}
use Rattle.tcltext.specs.Escape.{escape}
use Rattle.tcltext.specs.Balanced.{IsPaired}

-- What stands next in a bare or quoted element: the text's end, the byte that ends the element and
-- the text after it, a byte of the element and the text after it, or an escape that is left out
-- (Tcl_SplitList(3)).
pub data Next : Type 0 where
  at_end : Next
  a_stop : List ℕ → Next
  a_byte : ℕ → List ℕ → Next
  no_escape : Next

-- An escape is one byte of its element (Tcl(n), rule 9).
abbrev pub escaped : Result (ℕ × List ℕ) EscapeNotHere → Next
escaped (Ok r) = a_byte r.0 r.1
escaped (Err e) = no_escape

-- A text's first bytes tell what stands next (Tcl_SplitList(3)).
abbrev pub next : Style → List ℕ → Next
next s [] = at_end
next s (c ∷ x) =
    if stops s c then a_stop x else (if c == 92 then escaped (escape x) else a_byte c x)

-- The bytes e stand at the front of x, each as itself or as an escape, and z is the text after
-- them (Tcl_SplitList(3)).
abbrev pub IsSpelled : Style → List ℕ → List ℕ → List ℕ → Type 0
IsSpelled s [] x z = x ≡ z
IsSpelled s (b ∷ e) x z = (y : List ℕ) × (next s x ≡ a_byte b y) × IsSpelled s e y z

-- What is read in an element's place: its bytes and the text after it, or a flaw
-- (Tcl_SplitList(3)).
abbrev pub Outcome : Type 0
Outcome = Result (List ℕ × List ℕ) Flaw

-- After a closing brace or quote the element ends, else there is a flaw (Tcl_SplitList(3)).
abbrev pub closed : Flaw → List ℕ → List ℕ → Outcome
closed f e z = if ends_element z then Ok (e, z) else Err f

-- An element in braces is taken as it stands, up to the brace that pairs up; where none does, the
-- flaw is the open brace (Tcl(n), rule 6; Tcl_SplitList(3)).
abbrev pub IsBraced : List ℕ → Outcome → Type 0
IsBraced x o =
    ((e z : List ℕ) × IsPaired x e z × (o ≡ closed after_brace e z)) ⊎
    (((e z : List ℕ) → IsPaired x e z → ⊥) × (o ≡ Err open_brace))

-- An element in quotes goes up to the next quote; the text's end leaves it open (Tcl_SplitList(3)).
abbrev pub QuotedEnds : List ℕ → Next → Outcome → Type 0
QuotedEnds e at_end o = o ≡ Err open_quote
QuotedEnds e (a_stop z) o = o ≡ closed after_quote e z
QuotedEnds e (a_byte b z) o = ⊥
QuotedEnds e no_escape o = o ≡ Err escape_not_here

-- A bare element has a byte at least, and goes up to white or the text's end (Tcl_SplitList(3)).
abbrev pub BareEnds : List ℕ → List ℕ → Next → Outcome → Type 0
BareEnds e z at_end o = (0 < length e) × (o ≡ Ok (e, z))
BareEnds e z (a_stop y) o = (0 < length e) × (o ≡ Ok (e, z))
BareEnds e z (a_byte b y) o = ⊥
BareEnds e z no_escape o = o ≡ Err escape_not_here

-- An element's first byte says how it is spelled (Tcl_SplitList(3)).
pub data Opening : Type 0 where
  in_braces : List ℕ → Opening
  in_quotes : List ℕ → Opening
  bare : List ℕ → Opening

-- After an open brace or a quote the element's text begins; of a bare element all is text
-- (Tcl_SplitList(3)).
abbrev pub opening : List ℕ → Opening
opening [] = bare []
opening (c ∷ x) = if c == 123 then in_braces x else (if c == 34 then in_quotes x else bare (c ∷ x))

-- What is read after an opening (Tcl_SplitList(3)).
abbrev pub IsOpened : Opening → Outcome → Type 0
IsOpened (in_braces x) o = IsBraced x o
IsOpened (in_quotes x) o =
    (e z : List ℕ) × IsSpelled up_to_quote e x z × QuotedEnds e (next up_to_quote z) o
IsOpened (bare x) o =
    (e z : List ℕ) × IsSpelled up_to_white e x z × BareEnds e z (next up_to_white z) o

-- At the front of x stands an element or a flaw (Tcl_SplitList(3)).
abbrev pub IsElement : List ℕ → Outcome → Type 0
IsElement x o = IsOpened (opening x) o

-- The text has these elements with white between them, and then ends or has a flaw
-- (Tcl_SplitList(3)).
abbrev pub IsElements : List (List ℕ) → Option Flaw → List ℕ → Type 0
IsElements [] None x = skip_white x ≡ []
IsElements [] (Some f) x = IsElement (skip_white x) (Err f)
IsElements (e ∷ v) o x = (z : List ℕ) × IsElement (skip_white x) (Ok (e, z)) × IsElements v o z

-- The text is this list (Tcl_SplitList(3)).
abbrev pub IsList : List (List ℕ) → List ℕ → Type 0
IsList v x = IsElements v None x

-- The text is no list, and this flaw comes first from the left (this project's own rule).
abbrev pub HasFlaw : Flaw → List ℕ → Type 0
HasFlaw f x = (v : List (List ℕ)) × IsElements v (Some f) x
