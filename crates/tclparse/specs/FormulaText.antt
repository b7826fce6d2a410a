-- How a formula is written: operands and what joins them, before operators group.
use Rattle.tclparse.specs.declared.operator.Unary.{Unary}
use Rattle.tclparse.specs.declared.operator.Infix.{Infix}
use Rattle.tclparse.specs.declared.operator.Function.{Function}
use Rattle.tclparse.specs.Tree.{no_parts}
use Rattle.tclparse.specs.Formula.{Formula, text, call, prefix, choice, Links, no_links, link, Formulas, no_formulas, formula}
use Rattle.tclparse.specs.Grouping.{grouped}

mutual
  -- a numeral or text; a prefix before an operand; a formula in parentheses; a call (expr(n),
  -- operands)
  pub data Operand : Type 0 where
    leaf : Formula → Operand
    prefixed : Unary → Operand → Operand
    enclosed : Whole → Operand
    called : Function → Arguments → Operand

  -- an operand and what stands after it
  pub data Whole : Type 0 where
    whole : Operand → Rest → Whole

  -- the end; an operator, its right operand and what stands after that; or two formulas, between
  -- which the formula before them chooses (expr(n), operators)
  pub data Rest : Type 0 where
    over : Rest
    joined : Infix → Operand → Rest → Rest
    chosen : Whole → Whole → Rest

  -- the arguments of a call, at least one (mathfunc(n))
  pub data Arguments : Type 0 where
    last : Whole → Arguments
    further : Whole → Arguments → Arguments

-- the placeholder of an operand, and of a formula, that is not read
abbrev pub nothing : Formula
nothing = text no_parts

abbrev pub nothing_whole : Whole
nothing_whole = whole (leaf nothing) over

-- the formula that is written this way
abbrev mutual
  pub operand_tree : Operand → Formula
  operand_tree (leaf f) = f
  operand_tree (prefixed u a) = prefix u (operand_tree a)
  operand_tree (enclosed w) = whole_tree w
  operand_tree (called g args) = call g (argument_trees args)

  pub whole_tree : Whole → Formula
  whole_tree (whole a r) = rest_tree r (grouped (operand_tree a) (rest_links r))

  -- the operators up to the end, or up to the choice
  pub rest_links : Rest → Links
  rest_links over = no_links
  rest_links (joined i a r) = link i (operand_tree a) (rest_links r)
  rest_links (chosen v w) = no_links

  -- the formula f, or the choice of which it is the test
  pub rest_tree : Rest → Formula → Formula
  rest_tree over f = f
  rest_tree (joined i a r) f = rest_tree r f
  rest_tree (chosen v w) f = choice f (whole_tree v) (whole_tree w)

  pub argument_trees : Arguments → Formulas
  argument_trees (last w) = formula (whole_tree w) no_formulas
  argument_trees (further w args) = formula (whole_tree w) (argument_trees args)
