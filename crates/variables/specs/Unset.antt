-- What unset does.
use Rattle.std.specs.Prelude.{ℕ, List, [], ◌∷◌, codes, Bool, true, false, Option, Result, Ok, Err, is_some, if◌then◌else◌}
use Rattle.std.specs.List.{list_all}
use Rattle.acts.specs.Flaw as flaw
use Rattle.state.specs.Prelude.{Flaw, bind, Scopes}
use Rattle.kinds.specs.Readings.{Done}
use Rattle.kinds.specs.Usage.{after_flag}
use Rattle.kinds.specs.Variables.{name_in}
use Rattle.state.specs.Variables.{flaw_of_trouble, spelled}
use Rattle.tclparse.specs.Variable.{named}
use Rattle.tclstate.specs.Scopes.{Trouble, NoVariable, NoElement, removed}

-- the variables that are left where a name is removed; a missing name is passed over quietly, or is
-- the script's error (unset(n))
abbrev pub cleared : Result Scopes Trouble → Bool → List ℕ → Scopes → Result Scopes Flaw
cleared (Ok new) quiet name v = Ok new
cleared (Err NoVariable) true name v = Ok v
cleared (Err NoElement) true name v = Ok v
cleared (Err trouble) quiet name v = Err (flaw_of_trouble trouble name)

-- a name, or its element at an index, is removed (unset(n))
abbrev pub clears : Bool → List ℕ → Option (List ℕ) → Scopes → Result Scopes Flaw
clears quiet name index v = cleared (removed v name index) quiet (spelled name index) v

-- what a word names is removed (unset(n))
abbrev pub clears_word : Bool → List ℕ → Scopes → Result Scopes Flaw
clears_word quiet w v = bind (name_in w) (λ n. clears quiet n.0 n.1 v)

-- continues with the variables that are left; with an error nothing more is done (unset(n))
abbrev pub onward : Result Scopes Flaw → Scopes → (Scopes → Done Scopes) → Done Scopes
onward (Ok new) v next = next new
onward (Err flaw) v next = (v, Err flaw)

-- what the words name is removed in turn, up to the first error; what was removed before it stays
-- so (unset(n))
abbrev pub removes : Bool → List (List ℕ) → Scopes → Done Scopes
removes quiet [] v = (v, Ok [])
removes quiet (w ∷ ws) v = onward (clears_word quiet w v) v (removes quiet ws)

-- nothing is removed where a word names no variable (unset(n))
abbrev pub removes_named : Bool → List (List ℕ) → Scopes → Done Scopes
removes_named quiet words v =
    if list_all (λ w. is_some (named w)) words then removes quiet words v
    else (v, Err flaw.BadVariable)

-- another number of words than unset takes (unset(n))
abbrev pub wrong_words : Scopes → Done Scopes
wrong_words v = (v, Err (flaw.WrongArgs (codes "unset")))

-- at least one word stands after the flags (unset(n))
abbrev pub some_words : Bool → List (List ℕ) → Scopes → Done Scopes
some_words quiet [] v = wrong_words v
some_words quiet (w ∷ ws) v = removes_named quiet (w ∷ ws) v

-- the words after the flags, of which the first passes over missing names; after the other every
-- word is a name (unset(n))
abbrev pub by_quiet : Bool × List (List ℕ) → Scopes → Done Scopes
by_quiet (quiet, words) v = some_words quiet (after_flag (codes "--") words).1 v

-- unset ?-nocomplain? ?--? n .. (unset(n))
abbrev pub unset : List (List ℕ) → Scopes → Done Scopes
unset args v = by_quiet (after_flag (codes "-nocomplain") args) v
