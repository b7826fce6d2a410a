-- The procedures of a script (proc(n)).
use Rattle.std.specs.Prelude.{ℕ, List}
use Rattle.tclstate.specs.Formals.{Formal}

-- A procedure: its formal arguments and the script that it runs (proc(n)).
pub record Procedure : Type 0 where
  pub formals : List Formal
  pub body : List ℕ

-- The names that are defined, each once, with what was last defined for it (proc(n)).
abbrev pub Procs : Type 0
Procs = List (List ℕ × Procedure)
