-- The tree of a formula, regardless of where it lies in memory.
use Rattle.std.specs.Prelude.{ℕ, List}
use Rattle.tclparse.specs.declared.operator.Unary.{Unary}
use Rattle.tclparse.specs.declared.operator.Infix.{Infix}
use Rattle.tclparse.specs.declared.operator.Function.{Function}
use Rattle.tclparse.specs.Tree.{Parts}

mutual
  -- a numeral as it is written; a text of parts, which are a variable, a script, bytes, or what
  -- stands in quotes; a call; a prefix and its operand; operands in a row, joined by operators of
  -- one level, which group to the left; a test and two formulas (expr(n))
  pub data Formula : Type 0 where
    numeral : List ℕ → Formula
    text : Parts → Formula
    call : Function → Formulas → Formula
    prefix : Unary → Formula → Formula
    row : Formula → Links → Formula
    choice : Formula → Formula → Formula → Formula

  -- operators in order, each with the operand after it
  pub data Links : Type 0 where
    no_links : Links
    link : Infix → Formula → Links → Links

  -- a call's arguments in order
  pub data Formulas : Type 0 where
    no_formulas : Formulas
    formula : Formula → Formulas → Formulas
