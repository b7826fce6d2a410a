-- The code of a script, of a formula, and of the words of an argument in braces.
use Rattle.std.specs.Prelude.{true, false, List, length}
use Rattle.code.specs.Code.{At, FormulaAt, ScriptAt, WordsAt}
use Rattle.tclparse.specs.ScriptTree.{ScriptTree}
use Rattle.code.specs.declared.instruction.Instruction.{Instruction}
use Rattle.code.specs.declared.instruction.Instruction.TheVariants as i
use Rattle.tclparse.specs.Formula.{Formula}
use Rattle.tclparse.specs.Tree.{Words}

-- these instructions are the code of the tree (this project's own rule)
abbrev pub IsCodeOf : {A : Type 0} → List (Instruction A) → ScriptTree → Type 0
IsCodeOf code tree = ScriptAt code 0 tree.commands tree.fault (length code)

-- these instructions are the code of a formula that is run by itself: what is on top is dropped,
-- and then the formula evaluated (this project's own rule)
abbrev pub IsCodeOfFormula : {A : Type 0} → List (Instruction A) → Formula → Type 0
IsCodeOfFormula code formula = At code 0 i.Discard × FormulaAt code 1 formula (length code)

-- these instructions are the code of the words of an argument in braces, before which the name of
-- its command stands (this project's own rule)
abbrev pub IsCodeOfArgument : {A : Type 0} → List (Instruction A) → Words → Type 0
IsCodeOfArgument code ws = WordsAt code true false 1 0 ws (length code)
