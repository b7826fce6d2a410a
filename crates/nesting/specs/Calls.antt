-- What a call of a procedure does.
use Rattle.std.specs.Prelude.{ℕ, List, [], ◌∷◌, Bool, true, false, Option, Some, None, option_map}
use Rattle.state.specs.Prelude.{text_of, Ends, Course, raises, within, Outcome, Gives, Leaves, Stops, Error, Return, Break, Continue, Again, AgainRunning, Status}
use Rattle.acts.specs.Flaw as flaw
use Rattle.nesting.specs.declared.calls.Held.{Held}
use Rattle.tclstate.specs.Formals.{Formal, args, single, takes_rest}
use Rattle.tclstate.specs.Pairs.{put}
use Rattle.tclstate.specs.Procs.{Procedure}
use Rattle.tclstate.specs.Scopes.{Frame, Text, entered, popped}
use Rattle.tcltext.specs.Canonical.{canonical}

-- names with their values
abbrev pub Values : Type 0
Values = List (List ℕ × List ℕ)

-- what a formal takes: the next word, or its default where no word is left (proc(n))
abbrev pub taken : Formal → List (List ℕ) → Option (List ℕ)
taken f [] = f.default
taken f (w ∷ ws) = Some w

-- the words after the next one
abbrev pub behind : List (List ℕ) → List (List ℕ)
behind [] = []
behind (w ∷ ws) = ws

-- one more name with its value, where the name and all the others have one
abbrev pub with_value : List ℕ → Option (List ℕ) → Option Values → Option Values
with_value name None values = None
with_value name (Some value) None = None
with_value name (Some value) (Some values) = Some ((name, value) ∷ values)

-- a last args takes the remaining words as a list; without it no word may remain (proc(n))
abbrev pub rest_of : Bool → List (List ℕ) → Option Values
rest_of true words = Some ((args, canonical words) ∷ [])
rest_of false [] = Some []
rest_of false (w ∷ ws) = None

-- the formals with what they take, one after the other, unless the words are too few or too many
-- (proc(n))
abbrev pub values_of : Bool → List Formal → List (List ℕ) → Option Values
values_of rest [] words = rest_of rest words
values_of rest (f ∷ fs) words = with_value f.name (taken f words) (values_of rest fs (behind words))

-- the names get their values in turn, so that a name that stands twice has its last value (proc(n))
abbrev pub given : Values → Frame → Frame
given [] frame = frame
given (v ∷ vs) frame = given vs (put frame v.0 (Text v.1))

-- the variables of a call, unless its words are too few or too many (proc(n))
abbrev pub frame_of : List Formal → List (List ℕ) → Option Frame
frame_of formals words =
    option_map (λ values. given values []) (values_of (takes_rest formals) (single formals) words)

-- how a call ends, given how its body ended: with the body's value or what it returns; a break or a
-- continue is an error, since no loop is around it (proc(n); return(n), break(n), continue(n))
abbrev pub ended : Outcome → Outcome
ended (Gives value) = Gives value
ended (Leaves Error text) = Leaves Error text
ended (Leaves Return value) = Gives value
ended (Leaves Break value) = Leaves Error (text_of flaw.BreakOutside)
ended (Leaves Continue value) = Leaves Error (text_of flaw.ContinueOutside)
ended (Leaves Again value) = Leaves Again value
ended (Leaves AgainRunning value) = Leaves AgainRunning value
ended (Stops stop) = Stops stop

-- the variables of the call are removed, however its body ended (proc(n))
abbrev pub returned : Status → Outcome → Course
returned s o = Ends (record s { scopes = popped s.scopes }, ended o)

-- the body runs one level deeper with the variables of the call, if its words fit (proc(n))
abbrev pub runs_with : Option Frame → ℕ → List ℕ → List ℕ → Status → Course
runs_with None levels name body s = raises (flaw.WrongArgs name) s
runs_with (Some frame) levels name body s =
    within levels body (record s { scopes = entered frame s.scopes }) returned

-- a procedure is called by its name, with the words after it (proc(n))
abbrev pub call : ℕ → List ℕ → Procedure → List (List ℕ) → Status → Course
call levels name procedure words s =
    runs_with (frame_of procedure.formals words) levels name procedure.body s

-- what follows the body
abbrev pub next_of : Held → Status → Outcome → Course
next_of held = returned
