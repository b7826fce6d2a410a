-- What a command does: a procedure, one that runs scripts, one that takes branches, or another.
use Rattle.std.specs.Prelude.{ℕ, List, [], ◌∷◌, Option, Some, None}
use Rattle.state.specs.Prelude.{Course, gives, Status}
use Rattle.commands.specs.Commands as leaf
use Rattle.nesting.specs.Calls.{call}
use Rattle.nesting.specs.Commands.{does, named}
use Rattle.nesting.specs.Control.{Control}
use Rattle.expects.specs.Expect.{expect}
use Rattle.expects.specs.Words.{Form, named as form_of}
use Rattle.tclstate.specs.Pairs.{found}
use Rattle.tclstate.specs.Procs.{Procedure}

-- a command that takes branches (expect(1), expect), or one that runs no script (Tcl(n), rule 2)
abbrev pub formed : Option Form → ℕ → List ℕ → List (List ℕ) → Status → Course
formed (Some form) levels name args s = expect form levels args s
formed None levels name args s = leaf.command s (name ∷ args)

-- a command of these two kinds by its words; where there are none, nothing is done (Tcl(n), rule 2)
abbrev pub other_command : ℕ → Status → List (List ℕ) → Course
other_command levels s [] = gives [] s
other_command levels s (name ∷ args) = formed (form_of name) levels name args s

-- a command that runs scripts, or another (Tcl(n), rule 2)
abbrev pub chosen : Option Control → ℕ → List ℕ → List (List ℕ) → Status → Course
chosen (Some control) levels name args s = does control levels args s
chosen None levels name args s = formed (form_of name) levels name args s

-- a procedure hides a command of its name (proc(n))
abbrev pub called : Option Procedure → ℕ → List ℕ → List (List ℕ) → Status → Course
called (Some procedure) levels name args s = call levels name procedure args s
called None levels name args s = chosen (named name) levels name args s

-- a command by its words, in which this many levels may still nest; where there are no words,
-- nothing is done (Tcl(n), rules 1, 2 and 7)
abbrev pub command : ℕ → Status → List (List ℕ) → Course
command levels s [] = gives [] s
command levels s (name ∷ args) = called (found s.procedures name) levels name args s
