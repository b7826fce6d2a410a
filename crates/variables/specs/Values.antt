-- The values of variables: reading one that may be missing, and writing one, which gives the value.
use Rattle.std.specs.Prelude.{ℕ, List, [], Option, Some, None, Result, Ok, Err}
use Rattle.state.specs.Prelude.{Flaw, bind, Scopes}
use Rattle.kinds.specs.Variables.{put}
use Rattle.state.specs.Variables.{flaw_of_trouble, spelled}
use Rattle.tclstate.specs.Scopes.{Trouble, NoVariable, NoElement, read}

-- a text, unless it is missing; any other trouble is the script's error (append(n), incr(n))
abbrev pub found : Result (List ℕ) Trouble → List ℕ → Result (Option (List ℕ)) Flaw
found (Ok text) name = Ok (Some text)
found (Err NoVariable) name = Ok None
found (Err NoElement) name = Ok None
found (Err trouble) name = Err (flaw_of_trouble trouble name)

-- what a variable holds, unless it is missing (append(n), incr(n))
abbrev pub held : List ℕ → Option (List ℕ) → Scopes → Result (Option (List ℕ)) Flaw
held name index v = found (read v name index) (spelled name index)

-- a missing text counts as empty (append(n), lappend(n))
abbrev pub or_empty : Option (List ℕ) → List ℕ
or_empty (Some text) = text
or_empty None = []

-- the text of a variable; a missing one counts as empty (append(n), lappend(n))
abbrev pub text_in : List ℕ → Option (List ℕ) → Scopes → Result (List ℕ) Flaw
text_in name index v = bind (held name index v) (λ text. Ok (or_empty text))

-- a text is written, and given (set(n), append(n), lappend(n))
abbrev pub puts : List ℕ → Option (List ℕ) → List ℕ → Scopes → Result (Scopes × List ℕ) Flaw
puts name index text v = bind (put name index text v) (λ new. Ok (new, text))
