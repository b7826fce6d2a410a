-- The code of a text's formula.
use Rattle.std.specs.Prelude.{ℕ, List, Result, Ok, Err}
use Rattle.formulas.specs.Seen.{fault_of}
use Rattle.formulas.specs.declared.error.ReadError.{ReadError}
use Rattle.formulas.specs.declared.error.ReadError.TheVariants as error
use Rattle.tclparse.specs.Formula.{Formula}
use Rattle.tclparse.specs.FormulaGrammar.{IsFormula}

-- the text is the formula whose code is answered, or has the fault (expr(n)); want of memory says
-- nothing
abbrev pub ReadsCode : List ℕ → Result Formula ReadError → Type 0
ReadsCode text (Ok formula) = IsFormula (Ok formula) text
ReadsCode text (Err (error.Memory refusal)) = Unit {0}
ReadsCode text (Err (error.Fault fault)) = IsFormula (Err (fault_of fault)) text
