-- The variables that commands read and write.
use Rattle.std.specs.Prelude.{ℕ, List, [], ◌∷◌, Option, Some, None, Result, Ok, Err}
use Rattle.acts.specs.Flaw.{Flaw}
use Rattle.acts.specs.Flaw as flaw
use Rattle.acts.specs.Raise.{bind}
use Rattle.state.specs.Variables.{flaw_of_trouble, spelled}
use Rattle.tclparse.specs.Variable.{named}
use Rattle.tclstate.specs.Scopes.{Scopes, Trouble, read, written}

-- a name, and the index of an element, where there is a name
abbrev pub name_said : Option (List ℕ × Option (List ℕ)) → Result (List ℕ × Option (List ℕ)) Flaw
name_said (Some n) = Ok n
name_said None = Err flaw.BadVariable

-- the variable or the element that a word names (set(n); Tcl(n), rule 8)
abbrev pub name_in : List ℕ → Result (List ℕ × Option (List ℕ)) Flaw
name_in word = name_said (named word)

-- the result of what a variable is asked for, or the error of its trouble (set(n))
abbrev pub untroubled : {X : Type 0} → Result X Trouble → List ℕ → Result X Flaw
untroubled (Ok x) name = Ok x
untroubled (Err trouble) name = Err (flaw_of_trouble trouble name)

-- the value of a variable (set(n))
abbrev pub value_of : List ℕ → Option (List ℕ) → Scopes → Result (List ℕ) Flaw
value_of name index v = untroubled (read v name index) (spelled name index)

-- the variables once one is written (set(n))
abbrev pub put : List ℕ → Option (List ℕ) → List ℕ → Scopes → Result Scopes Flaw
put name index value v = untroubled (written v name index value) (spelled name index)

-- the variables once elements of an array are written one after the other, up to the first that
-- can't be (set(n); array(n))
abbrev pub put_all : List ℕ → List (List ℕ × List ℕ) → Scopes → Result Scopes Flaw
put_all name [] v = Ok v
put_all name (e ∷ es) v = bind (put name (Some e.0) e.1 v) (put_all name es)

-- the index of the first of some elements (array(n))
abbrev pub first_index : List (List ℕ × List ℕ) → Option (List ℕ)
first_index [] = None
first_index (e ∷ es) = Some e.0
