-- What proc does.
use Rattle.std.specs.Prelude.{ℕ, List, [], ◌∷◌, codes, Ok, Err, if◌then◌else◌}
use Rattle.acts.specs.Flaw as flaw
use Rattle.kinds.specs.Readings.{Done, Reading, Found, once}
use Rattle.procedures.specs.Formals.{formals_of}
use Rattle.tclparse.specs.Variable.{holds_colons}
use Rattle.tclstate.specs.Formals.{Formal}
use Rattle.tclstate.specs.Pairs.{put}
use Rattle.tclstate.specs.Procs.{Procs}

-- a procedure is defined for a name, in place of what was defined for it before (proc(n))
abbrev pub defines : List ℕ → List Formal → List ℕ → Procs → Done Procs
defines name formals body procs =
    (put procs name (record { formals = formals; body = body }), Ok [])

-- the same, with the formals that a text is (proc(n))
abbrev pub defines_read : List ℕ → List ℕ → List ℕ → Procs → Reading (Done Procs)
defines_read name formals body procs =
    once (formals_of formals) procs (λ fs. Found (defines name fs body procs))

-- the same, but a name that holds the mark of a namespace is refused (proc(n); the mark is this
-- project's own rule)
abbrev pub defines_named : List ℕ → List ℕ → List ℕ → Procs → Reading (Done Procs)
defines_named name formals body procs =
    if holds_colons name then Found (procs, Err flaw.BadVariable)
    else defines_read name formals body procs

-- proc n formals b (proc(n))
abbrev pub proc : List (List ℕ) → Procs → Reading (Done Procs)
proc (name ∷ formals ∷ body ∷ []) procs = defines_named name formals body procs
proc _ procs = Found (procs, Err (flaw.WrongArgs (codes "proc")))
