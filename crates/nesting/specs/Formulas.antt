-- What follows a text that is read as a formula.
use Rattle.std.specs.Prelude.{ℕ, List, Result, Ok, Err}
use Rattle.state.specs.Prelude.{Flaw, Reads, Course, raises, Status}
use Rattle.acts.specs.Flaw as flaw
use Rattle.state.specs.Faults.{flaw_of_fault}
use Rattle.state.specs.Piece.{FormulaText}
use Rattle.tclparse.specs.Formula.{Formula}
use Rattle.tclparse.specs.FormulaFault.{FormulaFault, of_words, syntax}

-- why a text is no formula, as the script's error (expr(n))
abbrev pub flaw_of_formula : FormulaFault → Flaw
flaw_of_formula (of_words fault) = flaw_of_fault fault
flaw_of_formula syntax = flaw.BadExpression

-- what follows a formula, where the text is one; else the reason why it is none is the script's
-- error (expr(n))
abbrev pub on_formula : Status → (Formula → Course) → Result Formula FormulaFault → Course
on_formula s next (Ok formula) = next formula
on_formula s next (Err why) = raises (flaw_of_formula why) s

-- a text is read as a formula, and then comes what follows that (expr(n))
abbrev pub with_formula : List ℕ → Status → (Formula → Course) → Course
with_formula text s next = Reads (FormulaText text) (on_formula s next)
