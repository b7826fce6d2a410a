-- What the next bytes of a word are.
use Rattle.std.specs.Prelude.{ℕ, ◌==◌, List, [], ◌∷◌, Bool, true, Option, Some, None, Result, Ok, Err, if◌then◌else◌}
use Rattle.tclparse.specs.Fault.{Fault, too_deep, escape_not_here, bad_variable}
use Rattle.tcltext.specs.Escape.{escape}
use Rattle.tcltext.specs.declared.escape.EscapeNotHere.{EscapeNotHere}
use Rattle.tclparse.specs.Context.{Context, ends_word}
use Rattle.tclparse.specs.Variable.{name_at, after_name, until, from, begins_with_colons, named}

-- Where the parts of a word stand: in a bare word, between quotes (Tcl(n), rule 4), or in the
-- parentheses of an element's index (rule 8).
pub data Place : Type 0 where
  in_word : Context → Place
  within_quotes : Place
  within_index : Place

-- What stands next in a word: the end of the place, a fault, a byte of the value, a variable, an
-- array whose index the text after it begins with, an array with its index, a script that the text
-- after it begins with. Each but the first two has the text after it.
pub data Next : Type 0 where
  end : Next
  fault : Fault → Next
  a_byte : ℕ → List ℕ → Next
  a_name : List ℕ → List ℕ → Next
  an_index : List ℕ → List ℕ → Next
  an_element : List ℕ → List ℕ → List ℕ → Next
  a_bracket : List ℕ → Next

-- a bare word ends as its context says, a quoted one at a quote (Tcl(n), rule 4), an index at a
-- parenthesis (rule 8); each at the text's end
abbrev pub ends_parts : Place → List ℕ → Bool
ends_parts (in_word context) x = ends_word context x
ends_parts within_quotes [] = true
ends_parts within_quotes (c ∷ x) = c == 34
ends_parts within_index [] = true
ends_parts within_index (c ∷ x) = c == 41

-- an escape is the byte that it stands for (Tcl(n), rule 9)
abbrev pub escape_piece : Result (ℕ × List ℕ) EscapeNotHere → Next
escape_piece (Ok r) = a_byte r.0 r.1
escape_piece (Err e) = fault escape_not_here

-- what a backslash begins, with this text after it
abbrev pub next_escape : List ℕ → Next
next_escape x = escape_piece (escape x)

-- a bracket or an index opens where d more may be open (this project's own rule)
abbrev pub next_bracket : ℕ → List ℕ → Next
next_bracket d x = if d == 0 then fault too_deep else a_bracket x

-- a name with this text after it: at a parenthesis an element's index begins (Tcl(n), rule 8)
abbrev pub next_index : ℕ → List ℕ → List ℕ → Next
next_index d n [] = a_name n []
next_index d n (c ∷ z) =
    if c == 40 then (if d == 0 then fault too_deep else an_index n z) else a_name n (c ∷ z)

-- $name and $name(index) (Tcl(n), rule 8); no namespaces
abbrev pub next_name : ℕ → List ℕ → List ℕ → Next
next_name d n z = if begins_with_colons z then fault bad_variable else next_index d n z

-- a variable, or an element whose index is its bytes themselves
abbrev pub next_variable : List ℕ → Option (List ℕ) → List ℕ → Next
next_variable n None z = a_name n z
next_variable n (Some i) z = an_element n i z

-- what a name between braces stands for, if anything
abbrev pub next_named : Option (List ℕ × Option (List ℕ)) → List ℕ → Next
next_named None z = fault bad_variable
next_named (Some v) z = next_variable v.0 v.1 z

-- ${name} (Tcl(n), rule 8)
abbrev pub next_braced : List ℕ → List ℕ → Next
next_braced n z = next_named (named n) z

-- after ${ the name goes up to the first closing brace
abbrev pub next_brace : List ℕ → List ℕ → Next
next_brace n [] = fault bad_variable
next_brace n (c ∷ z) = next_braced n z

-- a dollar before the text x, which begins with this name and continues with z
abbrev pub next_plain : ℕ → List ℕ → List ℕ → List ℕ → Next
next_plain d [] x z = if begins_with_colons x then fault bad_variable else a_byte 36 x
next_plain d (c ∷ n) x z = next_name d (c ∷ n) z

-- a dollar with this text after it (Tcl(n), rule 8)
abbrev pub next_dollar : ℕ → List ℕ → Next
next_dollar d [] = a_byte 36 []
next_dollar d (c ∷ x) =
    if c == 123 then next_brace (until 125 x) (from 125 x) else
    (if c == 40 then fault bad_variable else
    next_plain d (name_at (c ∷ x)) (c ∷ x) (after_name (c ∷ x)))

-- backslash, dollar and bracket begin a substitution (Tcl(n), rules 7, 8 and 9); any other byte is
-- itself
abbrev pub next_part : ℕ → List ℕ → Next
next_part d [] = end
next_part d (c ∷ x) =
    if c == 92 then next_escape x else
    (if c == 36 then next_dollar d x else
    (if c == 91 then next_bracket d x else a_byte c x))

-- what stands next in a word, at this place and where d more brackets and indexes may be open
abbrev pub next : Place → ℕ → List ℕ → Next
next place d x = if ends_parts place x then end else next_part d x
