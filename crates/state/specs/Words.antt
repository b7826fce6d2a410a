-- What the words of a command stand for.
use Rattle.std.specs.Prelude.{ℕ, Bool, true, false, List, [], ◌∷◌, ◌++◌, Some, None}
use Rattle.state.specs.Dialogue.{Course, inside, on_value}
use Rattle.state.specs.Status.{Status}
use Rattle.tclparse.specs.Tree.{Parts, no_parts, byte, variable, element, script, Words, no_words, word, Commands}
use Rattle.state.specs.Listed.{with_list}
use Rattle.state.specs.Variables.{reads}

-- a script in a word runs one level deeper, and its value is what counts (Tcl(n), rule 7)
abbrev pub nested : ℕ → Commands → Status → (Status → List ℕ → Course) → Course
nested levels commands s next =
    inside levels (record { commands = commands; fault = None }) s (on_value next)

-- the rest of a word's parts after the bytes so far, and what follows the word's value: variables
-- and scripts are substituted from left to right, each once (Tcl(n), rules 7, 8 and 11)
abbrev pub parts : ℕ → Parts → List ℕ → Status → (Status → List ℕ → Course) → Course
parts levels no_parts bytes s next = next s bytes
parts levels (byte b ps) bytes s next = parts levels ps (bytes ++ b ∷ []) s next
parts levels (variable name ps) bytes s next =
    reads name None s (λ value. parts levels ps (bytes ++ value) s next)
parts levels (element name is ps) bytes s next =
    parts levels is [] s (λ t index.
    reads name (Some index) t (λ value. parts levels ps (bytes ++ value) t next))
parts levels (script commands ps) bytes s next =
    nested levels commands s (λ t value. parts levels ps (bytes ++ value) t next)

-- what follows the words that a word stands for: itself, or after {*} its elements (Tcl(n), rule 5)
abbrev pub expanded : Bool → List ℕ → Status → (List (List ℕ) → Course) → Course
expanded false value s next = next (value ∷ [])
expanded true value s next = with_list value s next

-- the rest of a command's words after the values so far, and what follows all the values
-- (Tcl(n), rule 2)
abbrev pub words : ℕ → Words → List (List ℕ) → Status → (Status → List (List ℕ) → Course) → Course
words levels no_words values s next = next s values
words levels (word expands ps ws) values s next =
    parts levels ps [] s (λ t value.
    expanded expands value t (λ more. words levels ws (values ++ more) t next))
