-- Which tree a text has (Tcl(n), rules 1 to 10).
use Rattle.std.specs.Prelude.{◌≡◌, ℕ, ◌-◌, ◌==◌, ◌&&◌, ◌⊎◌, List, [], ◌∷◌, Bool, true, false, Option, Some, None, Result, Ok, Err, if◌then◌else◌}
use Rattle.tclparse.specs.Fault.{Fault, open_brace, open_bracket, open_quote, after_brace, after_quote, bad_variable}
use Rattle.tcltext.specs.Balanced.{IsPaired}
use Rattle.tclparse.specs.Tree.{Parts, no_parts, byte, variable, element, script, Words, no_words, word, Commands, no_commands, command, bytes_then, with_last}
use Rattle.tclparse.specs.Context.{Context, whole_script, bracketed, argument, ends_script, ends_command, ends_word}
use Rattle.tclparse.specs.Gap.{skip_white, skip_gap, between}
use Rattle.tclparse.specs.Braces.{IsValue}
use Rattle.tclparse.specs.Piece.{Place, in_word, within_quotes, within_index, Next, end, fault, a_byte, a_name, an_index, an_element, a_bracket, next}

-- Reading gives the unread text, or the fault at which it stops.
abbrev pub Outcome : Type 0
Outcome = Result (List ℕ) Fault

-- Where the outcome is an unread text, more is read from it; after a fault nothing is.
abbrev pub Then : Outcome → Type 0 → (List ℕ → Type 0) → Outcome → Type 0
Then (Ok z) nothing more o = more z
Then (Err f) nothing more o = nothing × (o ≡ Err f)

-- the parts of a word end here, or the next one is a fault
abbrev pub EndsAs : Next → List ℕ → Outcome → Type 0
EndsAs end x o = o ≡ Ok x
EndsAs (fault f) x o = o ≡ Err f
EndsAs (a_byte b z) x o = ⊥
EndsAs (a_name n z) x o = ⊥
EndsAs (an_index n z) x o = ⊥
EndsAs (an_element n i z) x o = ⊥
EndsAs (a_bracket z) x o = ⊥

-- after a nested script its bracket closes (Tcl(n), rule 7)
abbrev pub bracket_closed : Outcome → Outcome
bracket_closed (Ok []) = Err open_bracket
bracket_closed (Ok (c ∷ z)) = Ok z
bracket_closed (Err f) = Err f

-- after an index its parenthesis closes (Tcl(n), rule 8)
abbrev pub index_closed : Outcome → Outcome
index_closed (Ok []) = Err bad_variable
index_closed (Ok (c ∷ z)) = Ok z
index_closed (Err f) = Err f

-- after a closing brace or quote the word ends (Tcl(n), rules 4 and 6)
abbrev pub word_ended : Context → Fault → List ℕ → Outcome
word_ended context f z = if ends_word context z then Ok z else Err f

-- after a quoted word its quote closes (Tcl(n), rule 4)
abbrev pub quotes_closed : Context → Outcome → Outcome
quotes_closed context (Ok []) = Err open_quote
quotes_closed context (Ok (c ∷ z)) = word_ended context after_quote z
quotes_closed context (Err f) = Err f

-- a word's first byte says its kind: in braces (Tcl(n), rule 6), in quotes (rule 4), bare
pub data Kind : Type 0 where
  in_braces : List ℕ → Kind
  in_quotes : List ℕ → Kind
  bare : Kind

-- the kind of a word, by its first byte
abbrev pub kind : List ℕ → Kind
kind [] = bare
kind (c ∷ x) = if c == 123 then in_braces x else (if c == 34 then in_quotes x else bare)

-- the text after {*}
abbrev pub after_star : List ℕ → Option (List ℕ)
after_star [] = None
after_star (a ∷ []) = None
after_star (a ∷ b ∷ []) = None
after_star (a ∷ b ∷ c ∷ z) = if (a == 123) && ((b == 42) && (c == 125)) then Some z else None

-- there is {*}, and the word does not end after it
abbrev pub is_prefix : Context → Option (List ℕ) → Bool
is_prefix context None = false
is_prefix context (Some z) = if ends_word context z then false else true

-- a word that begins with {*} and continues after it is expanded (Tcl(n), rule 5)
abbrev pub expands : Context → List ℕ → Bool
expands context x = is_prefix context (after_star x)

-- the word without that prefix
abbrev pub without_prefix : Context → List ℕ → Option (List ℕ) → List ℕ
without_prefix context x None = x
without_prefix context x (Some z) = if ends_word context z then x else z

-- a word's own text, without {*}
abbrev pub unprefixed : Context → List ℕ → List ℕ
unprefixed context x = without_prefix context x (after_star x)

-- the value of a braced word is that of its content, up to the matching brace, with no substitution
-- made; where no brace matches, the fault is the open brace (Tcl(n), rule 6)
abbrev pub IsBraced : Context → Parts → List ℕ → Outcome → Type 0
IsBraced context ps x r =
    ((content rest value : List ℕ) × IsPaired x content rest × IsValue value content
    × (ps ≡ bytes_then value no_parts) × (r ≡ word_ended context after_brace rest)) ⊎
    (((content rest : List ℕ) → IsPaired x content rest → ⊥) × (ps ≡ no_parts)
    × (r ≡ Err open_brace))

-- ps are the parts of a word of this kind; IsParts says how parts are read at a place
abbrev pub IsWord : Context → Parts → (Place → List ℕ → Outcome → Type 0) → Kind → List ℕ
    → Outcome → Type 0
IsWord context ps IsParts (in_braces z) x r = IsBraced context ps z r
IsWord context ps IsParts (in_quotes z) x r = (s : Outcome) × IsParts within_quotes z s
    × (r ≡ quotes_closed context s)
IsWord context ps IsParts bare x r = IsParts (in_word context) x r

-- Each says: reading the text x gives this tree and the outcome o. At most d more brackets and
-- indexes may be open. Where the outcome is a fault, the tree holds what was read before it.
abbrev mutual
  pub IsParts : Place → ℕ → Parts → List ℕ → Outcome → Type 0
  IsParts place d no_parts x o = EndsAs (next place d x) x o
  IsParts place d (byte b ps) x o = (z : List ℕ) × (next place d x ≡ a_byte b z)
      × IsParts place d ps z o
  IsParts place d (variable n ps) x o = (z : List ℕ) × (next place d x ≡ a_name n z)
      × IsParts place d ps z o
  IsParts place d (element n is ps) x o =
      ((z : List ℕ) × (next place d x ≡ an_index n z) × (r : Outcome)
      × IsParts within_index (d - 1) is z r
      × Then (index_closed r) (ps ≡ no_parts) (λ w. IsParts place d ps w o) o)
      ⊎ ((i : List ℕ) × (z : List ℕ) × (next place d x ≡ an_element n i z)
      × (is ≡ bytes_then i no_parts) × IsParts place d ps z o)
  IsParts place d (script cs ps) x o =
      (z : List ℕ) × (next place d x ≡ a_bracket z) × (r : Outcome)
      × IsCommands bracketed (d - 1) cs z r
      × Then (bracket_closed r) (ps ≡ no_parts) (λ w. IsParts place d ps w o) o

  pub IsWords : Context → ℕ → Words → List ℕ → Outcome → Type 0
  IsWords context d no_words x o = (ends_command context x ≡ true) × (o ≡ Ok x)
  IsWords context d (word e ps ws) x o =
      (ends_command context x ≡ false) × (e ≡ expands context x) × (r : Outcome)
      × IsWord context ps (λ place z s. IsParts place d ps z s)
      (kind (unprefixed context x)) (unprefixed context x) r
      × Then r (ws ≡ no_words) (λ z. IsWords context d ws (skip_white context false z) o) o

  pub IsCommands : Context → ℕ → Commands → List ℕ → Outcome → Type 0
  IsCommands context d no_commands x o = (ends_script context (skip_gap context between x) ≡ true)
      × (o ≡ Ok (skip_gap context between x))
  IsCommands context d (command ws cs) x o =
      (ends_script context (skip_gap context between x) ≡ false) × (r : Outcome)
      × IsWords context d ws (skip_gap context between x) r
      × Then r (cs ≡ no_commands) (λ z. IsCommands context d cs z o) o

-- The text is these commands, and then ends; or a further command has the fault.
abbrev pub IsScript : Commands → Option Fault → List ℕ → Type 0
IsScript cs None x = IsCommands whole_script 100 cs x (Ok [])
IsScript cs (Some f) x = (ws : Words) × IsCommands whole_script 100 (with_last cs ws) x (Err f)

-- The braced argument is these words, and then ends; or it has the fault, and none of its words
-- counts.
abbrev pub IsArgument : Words → Option Fault → List ℕ → Type 0
IsArgument ws None x = IsWords argument 100 ws (skip_white argument false x) (Ok [])
IsArgument ws (Some f) x = (ws ≡ no_words) × (vs : Words)
    × IsWords argument 100 vs (skip_white argument false x) (Err f)
