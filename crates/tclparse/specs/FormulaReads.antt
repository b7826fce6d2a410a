-- What the results of the readers of a formula's texts say.
use Rattle.std.specs.Prelude.{ℕ, List, Option, Some, None, Result, Ok, Err, Vec}
use Rattle.std.specs.Borrow.{Bor}
use Rattle.std.specs.declared.rc.Rc.{Rc}
use Rattle.tclparse.specs.Seen.{fault_of}
use Rattle.tclparse.specs.Piece.{next_part}
use Rattle.tclparse.specs.Tree.{Parts, no_parts}
use Rattle.tclparse.specs.View.{parts_then}
use Rattle.tclparse.specs.Reads.{Read}
use Rattle.tclparse.specs.FormulaFault.{of_words, syntax}
use Rattle.tclparse.specs.FormulaGrammar.{IsQuoted, IsInBraces, IsSubstitution}
use Rattle.tclparse.specs.declared.error.ReadError.{ReadError}
use Rattle.tclparse.specs.declared.error.ReadError.TheVariants as error
use Rattle.tclparse.specs.declared.tree.Part.{Part}

-- Each says: the parts and the text in the result are those of the grammar, or the grammar reads
-- some parts up to the fault in the result. Where memory was refused nothing is said.
abbrev pub ReadsQuoted : {A : Type 0} → ℕ → List ℕ → Read A (Part A) → Type 0
ReadsQuoted d x (Ok r) = IsQuoted d (parts_then r.0.value.items no_parts) x (Ok r.1.now)
ReadsQuoted d x (Err (error.Memory refusal)) = Unit {0}
ReadsQuoted d x (Err (error.Fault f)) = (ps : Parts) × IsQuoted d ps x (Err (fault_of f))

abbrev pub ReadsInBraces : {A : Type 0} → List ℕ → Read A (Part A) → Type 0
ReadsInBraces x (Ok r) = IsInBraces (parts_then r.0.value.items no_parts) x (Ok r.1.now)
ReadsInBraces x (Err (error.Memory refusal)) = Unit {0}
ReadsInBraces x (Err (error.Fault f)) = (ps : Parts) × IsInBraces ps x (Err (fault_of f))

-- the result of reading a substitution: its parts and the text after them, or none
abbrev pub ReadSome : Type 0 → Type 0
ReadSome A = Result (Option (Rc (Vec (Part A) A) A × Bor (List ℕ))) ReadError

abbrev pub ReadsSubstitution : {A : Type 0} → ℕ → List ℕ → ReadSome A → Type 0
ReadsSubstitution d x (Ok (Some r)) =
    IsSubstitution d (parts_then r.0.value.items no_parts) (next_part d x) (Ok r.1.now)
ReadsSubstitution d x (Ok None) = IsSubstitution d no_parts (next_part d x) (Err syntax)
ReadsSubstitution d x (Err (error.Memory refusal)) = Unit {0}
ReadsSubstitution d x (Err (error.Fault f)) =
    (ps : Parts) × IsSubstitution d ps (next_part d x) (Err (of_words (fault_of f)))
