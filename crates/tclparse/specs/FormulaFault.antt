-- Why a text is not a formula.
use Rattle.tclparse.specs.Fault.{Fault}

-- A variable, a script, or a text in quotes or braces within the text has a fault, or too much is
-- open at one place; or the text can't go on as it does (expr(n)).
pub data FormulaFault : Type 0 where
  of_words : Fault → FormulaFault
  syntax : FormulaFault
