-- What the readers of elements answer.
use Rattle.std.specs.Prelude.{◌≡◌, ℕ, ◌<◌, List, length, Result, Ok, Err, IfSome, Vec}
use Rattle.std.specs.Borrow.{Bor}
use Rattle.tcltext.specs.Flaw.{escape_not_here}
use Rattle.tcltext.specs.Style.{Style}
use Rattle.tcltext.specs.declared.list.fault.ListFault.{ListFault}
use Rattle.tcltext.specs.declared.list.element.Piece.{Piece}
use Rattle.tcltext.specs.declared.list.element.Piece.TheVariants as piece
use Rattle.tcltext.specs.declared.list.element.Opening as opened
use Rattle.tcltext.specs.declared.list.element.Opening.TheVariants as opens
use Rattle.tcltext.specs.Elements.{Next, at_end, a_stop, a_byte, no_escape, next, IsSpelled, Opening, IsOpened}
use Rattle.tcltext.specs.declared.list.taken.Taken.{Taken}
use Rattle.tcltext.specs.Seen.{flaw_of, bytes_of}

-- Neither a byte of the element nor a flaw stands next (Tcl_SplitList(3)).
abbrev pub Halts : Next → Type 0
Halts at_end = Unit {0}
Halts (a_stop z) = Unit {0}
Halts (a_byte b z) = ⊥
Halts no_escape = ⊥

-- The text after a byte has fewer than n bytes (this project's own rule).
abbrev pub IsShorter : Piece → ℕ → Type 0
IsShorter piece.End n = Unit {0}
IsShorter (piece.Stop z) n = Unit {0}
IsShorter (piece.Byte b z) n = length z.now < n
IsShorter piece.NoEscape n = Unit {0}

-- The text after an open brace or quote has fewer than n bytes (this project's own rule).
abbrev pub OpensShorter : opened.Opening → ℕ → Type 0
OpensShorter (opens.Braces z) n = length z.now < n
OpensShorter (opens.Quotes z) n = length z.now < n
OpensShorter (opens.Bare z) n = length z.now ≡ n

-- Some bytes of the element, and then an escape that is left out (Tcl_SplitList(3)).
abbrev pub MeetsEscape : Style → List ℕ → Type 0
MeetsEscape s x = (e z : List ℕ) × IsSpelled s e x z × (next s z ≡ no_escape)

-- The bytes of an element up to its end, or an escape that is left out (Tcl_SplitList(3)).
abbrev pub ReadsSpelled : {A : Type 0}
    → Style → List ℕ → Result (Vec ℕ A × Bor (List ℕ)) ListFault → Type 0
ReadsSpelled s x (Ok r) = IsSpelled s r.0.items x r.1.now × Halts (next s r.1.now)
ReadsSpelled s x (Err f) = IfSome (flaw_of f) (λ flaw. (flaw ≡ escape_not_here) × MeetsEscape s x)

-- An element and the text after it, or its flaw (Tcl_SplitList(3)).
abbrev pub ReadsElement : {A : Type 0}
    → Opening → Result (Vec ℕ A × Bor (List ℕ)) ListFault → Type 0
ReadsElement o (Ok r) = IsOpened o (Ok (r.0.items, r.1.now))
ReadsElement o (Err f) = IfSome (flaw_of f) (λ flaw. IsOpened o (Err flaw))

-- An element and the text after it, or its flaw, wherever the element's bytes lie
-- (Tcl_SplitList(3)).
abbrev pub TakesElement : {A : Type 0}
    → Opening → Result (Taken A × Bor (List ℕ)) ListFault → Type 0
TakesElement o (Ok r) = IsOpened o (Ok (bytes_of r.0, r.1.now))
TakesElement o (Err f) = IfSome (flaw_of f) (λ flaw. IsOpened o (Err flaw))
