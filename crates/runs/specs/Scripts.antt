-- What scripts, commands, loops and turns of expect do.
use Rattle.std.specs.Prelude.{ℕ, List, [], Option, Some, None}
use Rattle.state.specs.Prelude.{Calls, Course, gives, raises, on_value, Status}
use Rattle.nesting.specs.Loop as loops
use Rattle.expects.specs.Turn.{turns}
use Rattle.runs.specs.Commands.{command}
use Rattle.state.specs.Dialogue.{tick}
use Rattle.state.specs.Faults.{flaw_of_fault}
use Rattle.state.specs.Piece.{Piece, Script, One, Loop, Turn}
use Rattle.tclparse.specs.Fault.{Fault}
use Rattle.tclparse.specs.Tree.{Words, Commands, no_commands}
use Rattle.tclparse.specs.Tree as tree
use Rattle.state.specs.Words.{words}

-- after the commands of a text: the value of the last one, or the fault that ends the text early,
-- which costs no tick (Tcl(n))
abbrev pub behind : Option Fault → Status → List ℕ → Course
behind None s value = gives value s
behind (Some fault) s value = raises (flaw_of_fault fault) s

-- the commands of a script, one after the other, after a command with this value (Tcl(n), rule 1)
abbrev pub script : ℕ → Commands → Option Fault → Status → List ℕ → Course
script levels no_commands fault s value = behind fault s value
script levels (tree.command ws cs) fault s value =
    Calls (One ws levels) s (on_value (script levels cs fault))

-- a command takes a tick before its words are substituted, and then runs (Tcl(n), rule 2)
abbrev pub one : ℕ → Words → Status → Course
one levels ws s = tick s (λ t. words levels ws [] t (command levels))

-- what each piece does
abbrev pub plan_of : Piece → Status → Course
plan_of (Script tree levels) s = script levels tree.commands tree.fault s []
plan_of (One ws levels) s = one levels ws s
plan_of (Loop loop levels) s = loops.turns loop levels s
plan_of (Turn turn levels) s = turns turn levels s
