-- The variables of a script, as commands read and write them.
use Rattle.std.specs.Prelude.{ℕ, ℤ, List, [], ◌∷◌, ◌++◌, Option, Some, None, Result, Ok, Err, if◌then◌else◌}
use Rattle.acts.specs.Flaw.{Flaw}
use Rattle.acts.specs.Flaw as flaw
use Rattle.tcltext.specs.Numbers.{numeral, is_in_range}
use Rattle.tclparse.specs.Variable as variable
use Rattle.tclstate.specs.Scopes.{Scopes, Trouble, NoVariable, IsArray, NotArray, NoElement, read, read_global, written}
use Rattle.state.specs.Dialogue.{Course, raises}
use Rattle.state.specs.Status.{Status}

-- a name as a script asks for it: `a`, or `a(i)` (Tcl(n), rule 8)
abbrev pub spelled : List ℕ → Option (List ℕ) → List ℕ
spelled name None = name
spelled name (Some index) = name ++ 40 ∷ index ++ 41 ∷ []

-- the error of a variable that could not be read or written (set(n))
abbrev pub flaw_of_trouble : Trouble → List ℕ → Flaw
flaw_of_trouble NoVariable name = flaw.NoVariable name
flaw_of_trouble IsArray name = flaw.IsArray name
flaw_of_trouble NotArray name = flaw.NotArray name
flaw_of_trouble NoElement name = flaw.NoElement name

-- continues with the value of a variable, or ends with the error that it could not be read (set(n))
abbrev pub found : Result (List ℕ) Trouble → List ℕ → Status → (List ℕ → Course) → Course
found (Ok value) name s next = next value
found (Err trouble) name s next = raises (flaw_of_trouble trouble name) s

-- a variable is read, and the course continues with its value (set(n))
abbrev pub reads : List ℕ → Option (List ℕ) → Status → (List ℕ → Course) → Course
reads name index s next = found (read s.scopes name index) (spelled name index) s next

-- continues after a write; a variable that could not be written is the script's error (set(n))
abbrev pub stored : Result Scopes Trouble → List ℕ → Status → (Status → Course) → Course
stored (Ok scopes) name s next = next (record s { scopes = scopes })
stored (Err trouble) name s next = raises (flaw_of_trouble trouble name) s

-- a variable is written, and the course continues where it could be (set(n))
abbrev pub writes : List ℕ → Option (List ℕ) → List ℕ → Status → (Status → Course) → Course
writes name index value s next =
    stored (written s.scopes name index value) (spelled name index) s next

-- continues with a name and the index of an element; where there is no name, that is the script's
-- error
abbrev pub on_name : Option (List ℕ × Option (List ℕ)) → Status →
    (List ℕ → Option (List ℕ) → Course) → Course
on_name None s next = raises flaw.BadVariable s
on_name (Some n) s next = next n.0 n.1

-- continues with the variable or the element that a word names (set(n); Tcl(n), rule 8)
abbrev pub with_name : List ℕ → Status → (List ℕ → Option (List ℕ) → Course) → Course
with_name word s next = on_name (variable.named word) s next

-- the first of two values that could be read
abbrev pub first_of : Result (List ℕ) Trouble → Result (List ℕ) Trouble → Option (List ℕ)
first_of (Ok value) other = Some value
first_of (Err trouble) (Ok value) = Some value
first_of (Err trouble) (Err other) = None

-- what a variable that Expect's commands read holds: sought in the local scope, then in the global
-- one; an array counts as unset (expect(1), introduction)
abbrev pub consulted : Scopes → List ℕ → Option (List ℕ)
consulted scopes name = first_of (read scopes name None) (read_global scopes name None)

-- a number, where 64 bits hold it
abbrev pub kept : Option ℤ → Option ℤ
kept None = None
kept (Some n) = if is_in_range n then Some n else None

-- the whole number within 64 bits that a text is (expr(n), operands)
abbrev pub whole_of : List ℕ → Option ℤ
whole_of text = kept (numeral text)
