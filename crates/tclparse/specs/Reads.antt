-- What the results of the readers say.
use Rattle.std.specs.Prelude.{◌≡◌, ℕ, List, Result, Ok, Err, Vec}
use Rattle.std.specs.Borrow.{Bor}
use Rattle.std.specs.declared.rc.Rc.{Rc}
use Rattle.tclparse.specs.declared.fault.Fault as the_fault
use Rattle.tclparse.specs.Seen.{fault_of}
use Rattle.tclparse.specs.Piece.{Place, within_index}
use Rattle.tclparse.specs.Context.{Context, bracketed}
use Rattle.tclparse.specs.Tree.{Parts, no_parts, element, script, Words, no_words, word, Commands, with_last}
use Rattle.tclparse.specs.Grammar.{Outcome, bracket_closed, index_closed, kind, expands, unprefixed, IsBraced, IsParts, IsWord, IsWords, IsCommands}
use Rattle.tclparse.specs.View.{part_view, parts_then, words_then, word_view}
use Rattle.tclparse.specs.declared.error.ReadError.{ReadError}
use Rattle.tclparse.specs.declared.error.ReadError.TheVariants as error
use Rattle.tclparse.specs.declared.tree.Part.{Part}
use Rattle.tclparse.specs.declared.tree.Word.{Word}

-- a list behind its counted pointer, and the unread text
abbrev pub Read : Type 0 → Type 0 → Type 0
Read A T = Result (Rc (Vec T A) A × Bor (List ℕ)) ReadError

-- a part, and the unread text
abbrev pub ReadPart : Type 0 → Type 0
ReadPart A = Result (Part A × Bor (List ℕ)) ReadError

-- Each says: the tree and the text in the result are those of the grammar, or the grammar reads
-- some tree up to the fault in the result. Where memory was refused nothing is said.
abbrev pub ReadsParts : {A : Type 0} → Place → ℕ → List ℕ → Read A (Part A) → Type 0
ReadsParts place d x (Ok r) = IsParts place d (parts_then r.0.value.items no_parts) x (Ok r.1.now)
ReadsParts place d x (Err (error.Memory refusal)) = Unit {0}
ReadsParts place d x (Err (error.Fault f)) = (ps : Parts) × IsParts place d ps x (Err (fault_of f))

-- an index, and the parenthesis after it
abbrev pub IsIndex : ℕ → Parts → List ℕ → Outcome → Type 0
IsIndex d ps x o = (r : Outcome) × IsParts within_index d ps x r × (index_closed r ≡ o)

abbrev pub ReadsElement : {A : Type 0} → List ℕ → ℕ → List ℕ → ReadPart A → Type 0
ReadsElement n d x (Ok r) = (is : Parts) × ((t : Parts) → part_view r.0 t ≡ element n is t)
    × IsIndex d is x (Ok r.1.now)
ReadsElement n d x (Err (error.Memory refusal)) = Unit {0}
ReadsElement n d x (Err (error.Fault f)) = (is : Parts) × IsIndex d is x (Err (fault_of f))

-- a script, and the bracket after it
abbrev pub IsBracket : ℕ → Commands → List ℕ → Outcome → Type 0
IsBracket d cs x o = (r : Outcome) × IsCommands bracketed d cs x r × (bracket_closed r ≡ o)

abbrev pub ReadsBracket : {A : Type 0} → ℕ → List ℕ → ReadPart A → Type 0
ReadsBracket d x (Ok r) = (cs : Commands) × ((t : Parts) → part_view r.0 t ≡ script cs t)
    × IsBracket d cs x (Ok r.1.now)
ReadsBracket d x (Err (error.Memory refusal)) = Unit {0}
ReadsBracket d x (Err (error.Fault f)) = (cs : Commands) × IsBracket d cs x (Err (fault_of f))

-- the content of a braced word, with its closing brace
abbrev pub ReadsBraced : {A : Type 0} → Context → List ℕ → Read A (Part A) → Type 0
ReadsBraced context x (Ok r) = IsBraced context (parts_then r.0.value.items no_parts) x (Ok r.1.now)
ReadsBraced context x (Err (error.Memory refusal)) = Unit {0}
ReadsBraced context x (Err (error.Fault f)) = (ps : Parts)
    × IsBraced context ps x (Err (fault_of f))

-- the parts of a word that has no prefix
abbrev pub IsBody : Context → ℕ → Parts → List ℕ → Outcome → Type 0
IsBody context d ps x r = IsWord context ps (λ place z s. IsParts place d ps z s) (kind x) x r

abbrev pub ReadsBody : {A : Type 0} → Context → ℕ → List ℕ → Read A (Part A) → Type 0
ReadsBody context d x (Ok r) = IsBody context d (parts_then r.0.value.items no_parts) x (Ok r.1.now)
ReadsBody context d x (Err (error.Memory refusal)) = Unit {0}
ReadsBody context d x (Err (error.Fault f)) = (ps : Parts)
    × IsBody context d ps x (Err (fault_of f))

-- one word, its prefix and its parts; the words after it are t
abbrev pub IsOneWord : Context → ℕ → Words → Words → List ℕ → Outcome → Type 0
IsOneWord context d ws t x r = (ps : Parts) × (ws ≡ word (expands context x) ps t)
    × IsBody context d ps (unprefixed context x) r

abbrev pub ReadsWord : {A : Type 0} → Context → ℕ → List ℕ
    → Result (Word A × Bor (List ℕ)) ReadError → Type 0
ReadsWord context d x (Ok r) = (t : Words) → IsOneWord context d (word_view r.0 t) t x (Ok r.1.now)
ReadsWord context d x (Err (error.Memory refusal)) = Unit {0}
ReadsWord context d x (Err (error.Fault f)) = (ps : Parts)
    × IsBody context d ps (unprefixed context x) (Err (fault_of f))

abbrev pub ReadsWords : {A : Type 0} → Context → ℕ → List ℕ → Read A (Word A) → Type 0
ReadsWords context d x (Ok r) =
    IsWords context d (words_then r.0.value.items no_words) x (Ok r.1.now)
ReadsWords context d x (Err (error.Memory refusal)) = Unit {0}
ReadsWords context d x (Err (error.Fault f)) = (ws : Words)
    × IsWords context d ws x (Err (fault_of f))

-- commands up to the end or the fault
abbrev pub ReadsTo : Context → ℕ → Commands → List ℕ → Result (Bor (List ℕ)) the_fault.Fault
    → Type 0
ReadsTo context d cs x (Ok z) = IsCommands context d cs x (Ok z.now)
ReadsTo context d cs x (Err f) = (ws : Words)
    × IsCommands context d (with_last cs ws) x (Err (fault_of f))
