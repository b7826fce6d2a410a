-- The tree of a script, regardless of where it lies in memory.
use Rattle.std.specs.Prelude.{ℕ, List, [], ◌∷◌, Bool, false}

mutual
  -- a word's parts in order: bytes, variables, elements of arrays with their index, scripts
  pub data Parts : Type 0 where
    no_parts : Parts
    byte : ℕ → Parts → Parts
    variable : List ℕ → Parts → Parts
    element : List ℕ → Parts → Parts → Parts
    script : Commands → Parts → Parts

  -- a command's words in order, each with whether `{*}` stands before it
  pub data Words : Type 0 where
    no_words : Words
    word : Bool → Parts → Words → Words

  -- a script's commands in order
  pub data Commands : Type 0 where
    no_commands : Commands
    command : Words → Commands → Commands

-- bytes, and the parts after them
abbrev pub bytes_then : List ℕ → Parts → Parts
bytes_then [] ps = ps
bytes_then (b ∷ bs) ps = byte b (bytes_then bs ps)

-- words that are texts as they stand (Tcl(n), rule 6)
abbrev pub literals : List (List ℕ) → Words
literals [] = no_words
literals (text ∷ texts) = word false (bytes_then text no_parts) (literals texts)

-- texts as they stand, before other words (Tcl(n), rule 6)
abbrev pub texts_then : List (List ℕ) → Words → Words
texts_then [] ws = ws
texts_then (text ∷ texts) ws = word false (bytes_then text no_parts) (texts_then texts ws)

-- commands, and one more after them
abbrev pub with_last : Commands → Words → Commands
with_last no_commands ws = command ws no_commands
with_last (command vs cs) ws = command vs (with_last cs ws)
