-- The pieces of a run, and the texts that are read on its way.
use Rattle.std.specs.Prelude.{◌↔◌, ℕ, ℤ, List, Option, Bool, IsTrue, Result}
use Rattle.acts.specs.declared.act.Timer.{Timer}
pub use Rattle.tclparse.specs.ScriptTree.{ScriptTree}
use Rattle.choices.specs.Branches.{Pair}
use Rattle.choices.specs.Choice.{Chosen, Chooses}
use Rattle.choices.specs.Lines.{Line}
use Rattle.readings.specs.Reads.{Place, Outcome, IsRead}
use Rattle.dialog.specs.Standing.{Effective}
use Rattle.choices.specs.declared.choice.Trigger.{Trigger}
use Rattle.meanings.specs.Meaning.{IsSplit}
use Rattle.tcltext.specs.Flaw.{Flaw}
use Rattle.patterns.specs.Item.{Item}
use Rattle.patterns.specs.Match.{Whole}
use Rattle.tclparse.specs.Tree.{Words}
use Rattle.tclparse.specs.Grammar.{IsScript, IsArgument}
use Rattle.tclparse.specs.Fault.{Fault}
use Rattle.tclparse.specs.Formula.{Formula}
use Rattle.tclparse.specs.FormulaFault.{FormulaFault}
use Rattle.tclparse.specs.FormulaGrammar.{IsFormula}

-- a loop: its test, its body, and the script that stands after each turn, if there is one
-- (while(n); for(n))
pub record LoopTree : Type 0 where
  pub test : Formula
  pub body : ScriptTree
  pub step : Option ScriptTree

-- the words of an argument in braces, and the fault that ends its text early (expect(1), expect)
pub record ArgumentTree : Type 0 where
  pub words : Words
  pub fault : Option Fault

-- a turn of expect: what it chooses among and waits for, the seconds of -timeout, the trigger after
-- which it looks for a pair, and the timer of its next wait, where one was started (expect(1),
-- expect)
pub record TurnTree : Type 0 where
  pub effective : Effective
  pub seconds : Option ℤ
  pub trigger : Trigger
  pub clock : Option Timer

-- a script, one command by its words, a loop that begins at one of its turns, or a turn of expect;
-- each with the levels that may still stand in it (Tcl(n), rules 1, 2 and 7; while(n); for(n);
-- expect(1), expect)
pub data Piece : Type 0 where
  Script : (tree : ScriptTree) (levels : ℕ) → Piece
  One : (words : Words) (levels : ℕ) → Piece
  Loop : (loop : LoopTree) (levels : ℕ) → Piece
  Turn : (turn : TurnTree) (levels : ℕ) → Piece

-- a text that is read: as a script (Tcl(n)), as a list (Tcl_SplitList(3)), as a formula (expr(n)),
-- as the words of an argument in braces (expect(1), expect); a text that a pattern is held against
-- (string(n), match); words that say branches, at a place; windows in which pairs are looked for
-- (expect(1), expect)
pub data Text : Type 0 where
  ScriptText : (text : List ℕ) → Text
  ListText : (text : List ℕ) → Text
  FormulaText : (text : List ℕ) → Text
  ArgumentText : (text : List ℕ) → Text
  TestText : (pattern : List Item) (text : List ℕ) → Text
  BranchText : (place : Place) (words : List (List ℕ)) → Text
  ChoiceText : (lines : List Line) (trigger : Trigger) (pairs : List Pair) → Text

-- what a text may be read as
abbrev pub Tree : Text → Type 0
Tree (ScriptText text) = ScriptTree
Tree (ListText text) = Result (List (List ℕ)) Flaw
Tree (FormulaText text) = Result Formula FormulaFault
Tree (ArgumentText text) = ArgumentTree
Tree (TestText pattern text) = Bool
Tree (BranchText place words) = Outcome
Tree (ChoiceText lines trigger pairs) = Option Chosen

-- what a text is read as (Tcl(n); Tcl_SplitList(3); expr(n); string(n), match; expect(1), expect)
abbrev pub IsTree : (text : Text) → Tree text → Type 0
IsTree (ScriptText text) tree = IsScript tree.commands tree.fault text
IsTree (ListText text) tree = IsSplit text tree
IsTree (FormulaText text) tree = IsFormula tree text
IsTree (ArgumentText text) tree = IsArgument tree.words tree.fault text
IsTree (TestText pattern text) takes = IsTrue takes ↔ Whole pattern text
IsTree (BranchText place words) outcome = IsRead place words outcome
IsTree (ChoiceText lines trigger pairs) choice = Chooses lines trigger pairs choice
