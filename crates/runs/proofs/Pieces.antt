-- What holds of each piece, proved from the pieces that it calls.
use Rattle.std.proofs.Common.{ℕ, ◌<◌, List, [], Option, Some, None, refl, arith}
use Rattle.commands.specs.Commands as leaf
use Rattle.nesting.proofs.Closed.{turns_closed}
use Rattle.nesting.specs.Loop.{turns as loop_turns}
use Rattle.dialog.specs.Standing.{Standing}
use Rattle.state.specs.Prelude.{Ends, Reads, Calls, Course, Outcome, LoopTree, TurnTree, Status, Scopes}
use Rattle.runs.specs.Commands.{command}
use Rattle.runs.specs.Scripts.{behind, script, plan_of}
use Rattle.runs.proofs.Command.{command_closed}
use Rattle.state.proofs.Closed.{Closed, Loops, Ticks, Turns, tick_closed, value_closed}
use Rattle.state.specs.Cut.{PassesStops}
use Rattle.state.specs.Piece.{Piece, Script, One, Loop, Turn, Text, Tree}
use Rattle.tclparse.specs.Fault.{Fault}
use Rattle.tclparse.specs.Tree.{Words, Commands, no_commands}
use Rattle.tclparse.specs.Tree as tree
use Rattle.state.proofs.Words.{words_closed}
use Rattle.state.specs.Words.{words}

-- the rank of a script is above that of its commands, and the rank of loops and turns above that of
-- their scripts
abbrev pub rank : Piece → ℕ
rank (One _ _) = 0
rank (Script _ _) = 1
rank (Loop _ _) = 2
rank (Turn _ _) = 2

-- the rank above all pieces: after a tick each of them may be called
abbrev pub top : ℕ
top = 3

-- P says for each rank of which courses, from which states, a property holds, where they call only
-- pieces of a lower rank. It holds of ends; and where it holds of all that may follow, it holds of
-- what begins with such a call whose stops are passed on, with a text that is read, with a variable
-- that is written or with a tick
pub record Inherited (P : ℕ → Status → Course → Type 0) : Type 0 where
  pub over : (r : ℕ) (s : Status) (o : Outcome) → P r s (Ends (s, o))
  pub calls : (r : ℕ) (piece : Piece) (s : Status) (next : Status → Outcome → Course) →
      rank piece < r → PassesStops next → ((u : Status) (o : Outcome) → P r u (next u o)) →
      P r s (Calls piece s next)
  pub reading : (r : ℕ) (text : Text) (s : Status) (next : Tree text → Course) →
      ((tree : Tree text) → P r s (next tree)) → P r s (Reads text next)
  pub writing : (r : ℕ) (scopes : Scopes) (s : Status) (course : Course) →
      P r (record s { scopes = scopes }) course → P r s course
  pub standing : (r : ℕ) (standing : Standing) (s : Status) (course : Course) →
      P r (record s { ids = record s.ids { standing = standing } }) course → P r s course
  pub ticking : (r : ℕ) → Ticks (P r) (P top)

module _ (P : ℕ → Status → Course → Type 0) (so : Inherited P)
    (plain : (s : Status) (words : List (List ℕ)) → P top s (leaf.command s words)) where
  closed_above : (r : ℕ) → 1 < r → Closed (P r)
  closed_above r above = record {
    over = so.over r;
    runs = λ levels tree s next passes each.
        so.calls r (Script tree levels) s next above passes each;
    reading = so.reading r;
    writing = so.writing r;
    standing = so.standing r;
  }

  loops : Loops (P top)
  loops loop levels s =
      so.calls top (Loop loop levels) s _ (omega arith) (λ u stop. (u, refl))
      (λ u o. so.over top u o)

  turns : Turns (P top)
  turns turn levels s =
      so.calls top (Turn turn levels) s _ (omega arith) (λ u stop. (u, refl))
      (λ u o. so.over top u o)

  behind_holds : (fault : Option Fault) (s : Status) (value : List ℕ) → P 1 s (behind fault s value)
  behind_holds None s value = so.over 1 s _
  behind_holds (Some fault) s value = so.over 1 s _

  script_holds : (levels : ℕ) (cs : Commands) (fault : Option Fault) (s : Status)
      (value : List ℕ) → P 1 s (script levels cs fault s value)
  script_holds levels no_commands fault s value = behind_holds fault s value
  script_holds levels (tree.command ws cs) fault s value =
      so.calls 1 (One ws levels) s _ (omega arith) (λ u stop. (u, refl))
      (value_closed (P 1) (so.over 1) (script levels cs fault)
      (λ u v. script_holds levels cs fault u v))

  -- one command, after its tick
  pub one_holds : (levels : ℕ) (ws : Words) (t : Status) →
      P top t (words levels ws [] t (command levels))
  one_holds levels ws t =
      let closed = closed_above top (omega arith) in
      words_closed (P top) closed levels ws [] t (command levels)
      (λ u vs. command_closed (P top) closed (so.ticking top) loops turns plain levels u vs)

  -- a loop
  pub turns_hold : (loop : LoopTree) (levels : ℕ) (s : Status) → P 2 s (loop_turns loop levels s)
  turns_hold loop levels s =
      turns_closed (P 2) (P top) (closed_above 2 (omega arith)) (so.ticking 2)
      (closed_above top (omega arith)) loops loop levels s

  -- each piece, where the property holds of turns of expect
  pub piece_holds : ((turn : TurnTree) (levels : ℕ) (s : Status) →
      P 2 s (plan_of (Turn turn levels) s)) → (piece : Piece) (s : Status) →
      P (rank piece) s (plan_of piece s)
  piece_holds each (Script tree levels) s = script_holds levels tree.commands tree.fault s []
  piece_holds each (One ws levels) s =
      tick_closed (P 0) (P top) (so.over 0) (so.ticking 0) s _ (one_holds levels ws)
  piece_holds each (Loop loop levels) s = turns_hold loop levels s
  piece_holds each (Turn turn levels) s = each turn levels s
