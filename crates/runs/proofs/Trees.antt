-- Each text has one tree.
use Rattle.std.proofs.Common.{ℕ, List, Option, Ok, Err, ◌⊎◌, inl, inr, ap, ap₂}
use Rattle.choices.proofs.Choices.{has_choice, one_choice}
use Rattle.readings.proofs.Readings.{has_reading, one_reading}
use Rattle.formulas.proofs.Exists.{each_formula}
use Rattle.formulas.proofs.Unique.{one_formula}
use Rattle.meanings.proofs.Once.{same_truth}
use Rattle.plan.specs.Answers.{OneTree}
use Rattle.patterns.proofs.Decided.{tested}
use Rattle.state.specs.Piece.{Text, ScriptText, ListText, FormulaText, ArgumentText, TestText, BranchText, ChoiceText, ScriptTree, ArgumentTree, Tree, IsTree}
use Rattle.tclparse.specs.Fault.{Fault}
use Rattle.tclparse.specs.Tree.{Commands, Words}
use Rattle.tclparse.proofs.Exists.{each_argument, each_script}
use Rattle.tclparse.proofs.Unique.{one_argument, one_script}
use Rattle.tcltext.proofs.Total.{list_or_flaw}
use Rattle.tcltext.proofs.Unique.{one_list, one_flaw, no_list_with_flaw}
use Rattle.tcltext.specs.Elements.{IsList, HasFlaw}
use Rattle.tcltext.specs.Flaw as list
use Rattle.patterns.specs.Match.{Whole}

-- a script's tree by its parts
abbrev script_tree : Commands → Option Fault → ScriptTree
script_tree commands fault = record { commands = commands; fault = fault }

-- the tree of an argument in braces by its parts
abbrev argument_tree : Words → Option Fault → ArgumentTree
argument_tree words fault = record { words = words; fault = fault }

pub one_tree : OneTree IsTree
one_tree (ScriptText text) tree other is was =
    let same = one_script text tree.commands other.commands tree.fault other.fault is was in
    ap₂ script_tree same.0 same.1
one_tree (ListText text) (Ok v) (Ok u) is was = ap Ok (one_list text v u is was)
one_tree (ListText text) (Ok v) (Err f) is was = absurd (no_list_with_flaw text v f is was)
one_tree (ListText text) (Err f) (Ok v) is was = absurd (no_list_with_flaw text v f was is)
one_tree (ListText text) (Err f) (Err g) is was = ap Err (one_flaw text f g is was)
one_tree (FormulaText text) tree other is was = one_formula text tree other is was
one_tree (ArgumentText text) tree other is was =
    let same = one_argument text tree.words other.words tree.fault other.fault is was in
    ap₂ argument_tree same.0 same.1
one_tree (BranchText place words) tree other is was = one_reading place words tree other is was
one_tree (ChoiceText lines trigger pairs) tree other is was =
    one_choice lines trigger pairs tree other is was
one_tree (TestText pattern text) takes other is was =
    same_truth takes other (Whole pattern text) is was

list_tree : (text : List ℕ) →
    ((v : List (List ℕ)) × IsList v text) ⊎ ((f : list.Flaw) × HasFlaw f text) →
    (tree : Tree (ListText text)) × IsTree (ListText text) tree
list_tree text (inl is) = (Ok is.0, is.1)
list_tree text (inr has) = (Err has.0, has.1)

pub has_tree : (text : Text) → (tree : Tree text) × IsTree text tree
has_tree (ScriptText text) =
    let is = each_script text in (script_tree is.0 is.1, is.2)
has_tree (ListText text) = list_tree text (list_or_flaw text)
has_tree (FormulaText text) = each_formula text
has_tree (ArgumentText text) =
    let is = each_argument text in (argument_tree is.0 is.1, is.2)
has_tree (TestText pattern text) = tested pattern text
has_tree (BranchText place words) = has_reading place words
has_tree (ChoiceText lines trigger pairs) = has_choice lines trigger pairs
