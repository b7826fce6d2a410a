-- What the readers answer.
use Rattle.std.specs.Prelude.{◌≡◌, ℕ, List, Result, Ok, Err, Vec}
use Rattle.std.specs.Borrow.{Bor}
use Rattle.std.specs.declared.rc.Rc.{Rc}
use Rattle.tclparse.specs.declared.operator.Function.{Function}
use Rattle.tclparse.specs.Formula as tree
use Rattle.tclparse.specs.Formula.{no_formulas}
use Rattle.tclparse.specs.FormulaPiece as piece
use Rattle.tclparse.specs.FormulaText.{Operand, Whole, Arguments, nothing_whole, operand_tree, whole_tree, argument_trees}
use Rattle.tclparse.specs.FormulaGrammar.{FormulaOutcome, Goes, closed, IsLeaf, IsOperand, IsWhole, IsArguments, IsFormula}
use Rattle.formulas.specs.Seen.{fault_of}
use Rattle.formulas.specs.View.{formula_of, formulas_then}
use Rattle.formulas.specs.declared.tree.Formula.{Formula}
use Rattle.formulas.specs.declared.error.ReadError.{ReadError}
use Rattle.formulas.specs.declared.error.ReadError.TheVariants as error

-- a formula that was read, and the unread text after it
abbrev pub Read : Type 0 → Type 0
Read A = Result (Formula A × Bor (List ℕ)) ReadError

-- a shared list of formulas that were read, and the unread text after them
abbrev pub ReadList : Type 0 → Type 0
ReadList A = Result (Rc (Vec (Formula A) A) A × Bor (List ℕ)) ReadError

-- Each says: the text spells what is answered, and the unread text after it is the one that the
-- grammar leaves; or, where there is a fault, the text spells something up to that fault. Want of
-- memory says nothing.
abbrev pub ReadsLeaf : {A : Type 0} → ℕ → piece.Leaf → Read A → Type 0
ReadsLeaf d l (Ok r) = IsLeaf d (formula_of r.0) l (Ok r.1.now)
ReadsLeaf d l (Err (error.Memory refusal)) = Unit {0}
ReadsLeaf d l (Err (error.Fault f)) = (g : tree.Formula) × IsLeaf d g l (Err (fault_of f))

abbrev pub ReadsOperand : {A : Type 0} → ℕ → List ℕ → Read A → Type 0
ReadsOperand d x (Ok r) =
    (a : Operand) × IsOperand d a x (Ok r.1.now) × (formula_of r.0 ≡ operand_tree a)
ReadsOperand d x (Err (error.Memory refusal)) = Unit {0}
ReadsOperand d x (Err (error.Fault f)) = (a : Operand) × IsOperand d a x (Err (fault_of f))

abbrev pub ReadsWhole : {A : Type 0} → ℕ → List ℕ → Read A → Type 0
ReadsWhole d x (Ok r) =
    (w : Whole) × IsWhole d w x (Ok r.1.now) × (formula_of r.0 ≡ whole_tree w)
ReadsWhole d x (Err (error.Memory refusal)) = Unit {0}
ReadsWhole d x (Err (error.Fault f)) = (w : Whole) × IsWhole d w x (Err (fault_of f))

-- two formulas with a colon between them
abbrev pub AreChosen : ℕ → Whole → Whole → List ℕ → FormulaOutcome → Type 0
AreChosen d v w x o =
    (r : FormulaOutcome) × IsWhole d v x r
    × Goes (closed 58 r) (w ≡ nothing_whole) (λ y. IsWhole d w y o) o

-- the choice of which t is the test
abbrev pub ReadsChoice : {A : Type 0} → tree.Formula → ℕ → List ℕ → Read A → Type 0
ReadsChoice t d x (Ok r) =
    (v w : Whole) × AreChosen d v w x (Ok r.1.now)
    × (formula_of r.0 ≡ tree.choice t (whole_tree v) (whole_tree w))
ReadsChoice t d x (Err (error.Memory refusal)) = Unit {0}
ReadsChoice t d x (Err (error.Fault f)) = (v w : Whole) × AreChosen d v w x (Err (fault_of f))

abbrev pub ReadsArguments : {A : Type 0} → ℕ → Function → List ℕ → ReadList A → Type 0
ReadsArguments d g x (Ok r) =
    (args : Arguments) × IsArguments d g args x (Ok r.1.now)
    × (formulas_then r.0.value.items no_formulas ≡ argument_trees args)
ReadsArguments d g x (Err (error.Memory refusal)) = Unit {0}
ReadsArguments d g x (Err (error.Fault f)) =
    (args : Arguments) × IsArguments d g args x (Err (fault_of f))

-- the text is the formula that is answered, or has the fault; want of memory says nothing
abbrev pub ReadsFormula : {A : Type 0} → List ℕ → Result (Formula A) ReadError → Type 0
ReadsFormula x (Ok f) = IsFormula (Ok (formula_of f)) x
ReadsFormula x (Err (error.Memory refusal)) = Unit {0}
ReadsFormula x (Err (error.Fault f)) = IsFormula (Err (fault_of f)) x
