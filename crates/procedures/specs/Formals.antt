-- The formals of a procedure, as proc takes them.
use Rattle.std.specs.Prelude.{ℕ, List, [], ◌∷◌, codes, Option, Some, None, Result, Ok, Err}
use Rattle.acts.specs.Flaw as flaw
use Rattle.state.specs.Prelude.{Flaw, bind, ListText}
use Rattle.kinds.specs.Readings.{Reading, Found, Reads, and_bind, elements}
use Rattle.kinds.specs.Variables.{name_in}
use Rattle.tclstate.specs.Formals.{Formal}
use Rattle.tcltext.specs.Flaw as list

-- the error of a text that is no list of formals; it names the whole text (this project's own rule)
abbrev pub bad_formals : List ℕ → Flaw
bad_formals text = flaw.BadArgument text (codes "proc")

-- a formal is a list of a name, or of a name and its default (proc(n))
abbrev pub formal_in : List ℕ → Result (List (List ℕ)) list.Flaw → Result Formal Flaw
formal_in text (Ok (name ∷ [])) = Ok (record { name = name; default = None })
formal_in text (Ok (name ∷ default ∷ [])) = Ok (record { name = name; default = Some default })
formal_in text _ = Err (bad_formals text)

-- an element of the text of all formals is read as one (proc(n))
abbrev pub formal_of : List ℕ → List ℕ → Reading (Result Formal Flaw)
formal_of text element = Reads (ListText element) (λ split. Found (formal_in text split))

-- the elements of the text are read as formals in turn, up to the first that is none (proc(n))
abbrev pub each_of : List ℕ → List (List ℕ) → Reading (Result (List Formal) Flaw)
each_of text [] = Found (Ok [])
each_of text (e ∷ es) =
    and_bind (formal_of text e) (λ f. and_bind (each_of text es) (λ fs. Found (Ok (f ∷ fs))))

-- a text is read as a list of formals (proc(n))
abbrev pub listed : List ℕ → Reading (Result (List Formal) Flaw)
listed text = and_bind (elements text) (λ es. each_of text es)

-- no index stands after the name of a formal, or there is the error (proc(n))
abbrev pub without_index : List ℕ → Option (List ℕ) → Result (Unit {0}) Flaw
without_index text None = Ok tt
without_index text (Some index) = Err (bad_formals text)

-- a name is that of a variable as a whole, or there is the error (proc(n))
abbrev pub whole : List ℕ → List ℕ → Result (Unit {0}) Flaw
whole text name = bind (name_in name) (λ n. without_index text n.1)

-- each formal has the name of a variable as a whole, or there is the error of the first that has
-- not (proc(n))
abbrev pub all_whole : List ℕ → List Formal → Result (Unit {0}) Flaw
all_whole text [] = Ok tt
all_whole text (f ∷ fs) = bind (whole text f.name) (λ done. all_whole text fs)

-- the formals, where their names can be those of variables (proc(n))
abbrev pub usable : List ℕ → List Formal → Result (List Formal) Flaw
usable text fs = bind (all_whole text fs) (λ done. Ok fs)

-- the formals that a text is; the text that is no list, the element that is no formal and the name
-- that is not that of a variable are reported in this order (proc(n))
abbrev pub formals_of : List ℕ → Reading (Result (List Formal) Flaw)
formals_of text = and_bind (listed text) (λ fs. Found (usable text fs))
