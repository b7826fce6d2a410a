-- What values of the code stand for in these definitions.
use Rattle.std.specs.Prelude.{◌≡◌, ℕ, List, map, Option, Some, None, Vec}
use Rattle.memory.specs.declared.NoMemory.{NoMemory}
use Rattle.tcltext.specs.Flaw.{Flaw, open_brace, open_quote, after_brace, after_quote, escape_not_here}
use Rattle.tcltext.specs.Style as styles
use Rattle.tcltext.specs.Elements.{Next, at_end, a_stop, a_byte, no_escape, Opening as Opens, in_braces, in_quotes, bare}
use Rattle.tcltext.specs.declared.list.fault.ListFault.{ListFault}
use Rattle.tcltext.specs.declared.list.fault.ListFault.TheVariants as fault
use Rattle.tcltext.specs.declared.list.element.Style.{Style}
use Rattle.tcltext.specs.declared.list.element.Style.TheVariants as style
use Rattle.tcltext.specs.declared.list.element.Piece.{Piece}
use Rattle.tcltext.specs.declared.list.element.Piece.TheVariants as piece
use Rattle.tcltext.specs.declared.list.element.Opening.{Opening}
use Rattle.tcltext.specs.declared.list.element.Opening.TheVariants as opens
use Rattle.tcltext.specs.declared.list.taken.Taken.{Taken}
use Rattle.tcltext.specs.declared.list.taken.Taken.TheVariants as taken

-- The bytes of each element, without where they lie in memory (this project's own rule).
abbrev pub texts : {A : Type 0} → List (Vec ℕ A) → List (List ℕ)
texts {A} v = map (λ (e : Vec ℕ A). e.items) v

-- The flaw that a fault of the code names; a refusal of memory names none (this project's own
-- rule).
abbrev pub flaw_of : ListFault → Option Flaw
flaw_of fault.OpenBrace = Some open_brace
flaw_of fault.OpenQuote = Some open_quote
flaw_of fault.AfterBrace = Some after_brace
flaw_of fault.AfterQuote = Some after_quote
flaw_of (fault.NoMemory refused) = None
flaw_of fault.EscapeNotHere = Some escape_not_here

-- The fault is a refusal of memory (this project's own rule).
abbrev pub WantsMemory : ListFault → Type 0
WantsMemory f = (refused : NoMemory) × (f ≡ fault.NoMemory refused)

-- The style that a value of the code stands for (this project's own rule).
abbrev pub style_of : Style → styles.Style
style_of style.Bare = styles.up_to_white
style_of style.Quoted = styles.up_to_quote

-- What stands next in an element, as a `Piece` of the code says it (this project's own rule).
abbrev pub seen : Piece → Next
seen piece.End = at_end
seen (piece.Stop z) = a_stop z.now
seen (piece.Byte b z) = a_byte b z.now
seen piece.NoEscape = no_escape

-- How an element begins, as the code says it (this project's own rule).
abbrev pub seen_opening : Opening → Opens
seen_opening (opens.Braces x) = in_braces x.now
seen_opening (opens.Quotes x) = in_quotes x.now
seen_opening (opens.Bare x) = bare x.now

-- The bytes of an element, wherever they lie (this project's own rule).
abbrev pub bytes_of : {A : Type 0} → Taken A → List ℕ
bytes_of (taken.Here bytes) = bytes.now
bytes_of (taken.Apart bytes) = bytes.items
