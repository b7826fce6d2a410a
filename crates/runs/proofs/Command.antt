-- A property that is closed under the steps of which courses are made holds of each command,
-- procedures among them, where it holds of the commands that run no script, of loops and of turns.
use Rattle.std.proofs.Common.{ℕ, List, [], ◌∷◌, Option, Some, None}
use Rattle.nesting.proofs.ClosedBodies.{call_closed}
use Rattle.commands.specs.Commands as leaf
use Rattle.nesting.specs.Commands.{named}
use Rattle.nesting.specs.Control.{Control}
use Rattle.nesting.proofs.Behaves.{does_closed}
use Rattle.expects.proofs.Closed.{expect_closed}
use Rattle.expects.specs.Words.{Form, named as form_of}
use Rattle.runs.specs.Commands.{called, chosen, command, formed}
use Rattle.state.proofs.Closed.{Closed, Loops, Ticks, Turns}
use Rattle.state.specs.Prelude.{Course, Gives, Status}
use Rattle.tclstate.specs.Pairs.{found}
use Rattle.tclstate.specs.Procs.{Procedure}

module _ (P : Status → Course → Type 0) (closed : Closed P) (ticks : Ticks P P) (loops : Loops P)
    (turns : Turns P) (plain : (s : Status) (words : List (List ℕ)) → P s (leaf.command s words)) where
  formed_closed : (f : Option Form) (levels : ℕ) (name : List ℕ) (args : List (List ℕ))
      (s : Status) → P s (formed f levels name args s)
  formed_closed (Some form) levels name args s =
      expect_closed P closed turns form levels args s
  formed_closed None levels name args s = plain s (name ∷ args)

  chosen_closed : (c : Option Control) (levels : ℕ) (name : List ℕ) (args : List (List ℕ))
      (s : Status) → P s (chosen c levels name args s)
  chosen_closed (Some c) levels name args s = does_closed P closed ticks loops c levels args s
  chosen_closed None levels name args s = formed_closed (form_of name) levels name args s

  called_closed : (p : Option Procedure) (levels : ℕ) (name : List ℕ) (args : List (List ℕ))
      (s : Status) → P s (called p levels name args s)
  called_closed (Some procedure) levels name args s =
      call_closed P closed levels name procedure args s
  called_closed None levels name args s = chosen_closed (named name) levels name args s

  pub command_closed : (levels : ℕ) (s : Status) (words : List (List ℕ)) →
      P s (command levels s words)
  command_closed levels s [] = closed.over s (Gives [])
  command_closed levels s (name ∷ args) =
      called_closed (found s.procedures name) levels name args s
