-- What ends a word, a command and a script.
use Rattle.std.specs.Prelude.{ℕ, ◌==◌, ◌&&◌, ◌||◌, List, [], ◌∷◌, Bool, true, false}

-- The context that the words of a text stand in: a whole script, a script between brackets (Tcl(n),
-- rule 7), or a braced argument of `expect`, which is one command (expect(1), expect).
pub data Context : Type 0 where
  whole_script : Context
  bracketed : Context
  argument : Context

-- the text begins with the byte b
abbrev pub begins_with : ℕ → List ℕ → Bool
begins_with b [] = false
begins_with b (c ∷ x) = c == b

-- blank, tab, vertical tab, form feed, carriage return (Tcl(n), rule 3)
abbrev pub is_blank : ℕ → Bool
is_blank c = (c == 32) || ((c == 9) || ((c == 11) || ((c == 12) || (c == 13))))

-- in a braced argument of `expect` a newline is a blank too (this project's own rule)
abbrev pub is_white : Context → ℕ → Bool
is_white whole_script c = is_blank c
is_white bracketed c = is_blank c
is_white argument c = is_blank c || (c == 10)

-- a newline or a semicolon separates commands (Tcl(n), rule 1); in a braced argument of `expect`
-- nothing does
abbrev pub is_separator : Context → ℕ → Bool
is_separator whole_script c = (c == 10) || (c == 59)
is_separator bracketed c = (c == 10) || (c == 59)
is_separator argument c = false

-- a nested script ends at `]` (Tcl(n), rule 7)
abbrev pub is_closing : Context → ℕ → Bool
is_closing whole_script c = false
is_closing bracketed c = c == 93
is_closing argument c = false

-- a backslash before a newline (Tcl(n), rule 9)
abbrev pub is_continuation : ℕ → List ℕ → Bool
is_continuation c x = (c == 92) && begins_with 10 x

-- a script ends at the text's end, and between brackets at `]`
abbrev pub ends_script : Context → List ℕ → Bool
ends_script context [] = true
ends_script context (c ∷ x) = is_closing context c

-- a command ends where its script does, and at what separates commands
abbrev pub ends_command : Context → List ℕ → Bool
ends_command context [] = true
ends_command context (c ∷ x) = is_separator context c || is_closing context c

-- a word ends where its command does, at white space and at a continued line
abbrev pub ends_word : Context → List ℕ → Bool
ends_word context [] = true
ends_word context (c ∷ x) =
    is_white context c || (is_separator context c || (is_closing context c || is_continuation c x))
