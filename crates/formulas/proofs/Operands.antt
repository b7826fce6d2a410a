-- Operands, choices and errors that are passed on, as the code takes them.
use Rattle.std.proofs.Common.{◌≡◌, ℕ, ◌-◌, List, Result, Ok, Err, Vec, refl, sym, ap, subst, ◌∙◌}
use Rattle.std.specs.Borrow.{Bor}
use Rattle.std.specs.declared.rc.Rc.{Rc}
use Rattle.tclparse.specs.declared.operator.Function.{Function}
use Rattle.tclparse.specs.declared.operator.Infix.{Infix}
use Rattle.tclparse.specs.declared.operator.Unary.{Unary}
use Rattle.tclparse.specs.Formula as tree
use Rattle.tclparse.specs.Formula.{no_formulas}
use Rattle.tclparse.specs.FormulaFault.{FormulaFault}
use Rattle.tclparse.specs.FormulaPiece.{Leaf, a_leaf, a_prefix, a_parenthesis, a_call, opening, an_infix, following}
use Rattle.tclparse.specs.FormulaText.{Operand, leaf, prefixed, enclosed, called, Whole, Arguments, nothing_whole, operand_tree, whole_tree, argument_trees}
use Rattle.tclparse.specs.FormulaGrammar.{FormulaOutcome, Goes, closed, IsLeafAt, IsOperand, IsWhole, IsArguments}
use Rattle.formulas.specs.Seen.{fault_of}
use Rattle.formulas.specs.View.{formula_of, formulas_then}
use Rattle.formulas.specs.Reads.{Read, ReadList, ReadsLeaf, ReadsOperand, ReadsWhole, ReadsChoice, ReadsArguments, AreChosen}
use Rattle.formulas.specs.declared.tree.Formula.{Formula, Call}
use Rattle.formulas.specs.declared.tree.Link.{Link}
use Rattle.formulas.specs.declared.error.ReadError.{ReadError}
use Rattle.formulas.specs.declared.error.ReadError.TheVariants as error
use Rattle.formulas.proofs.Trees.{view_Call}
use Rattle.formulas.proofs.Steps.{WholeSoFar, ArgumentsSoFar, first_fault, link_fault, argument_fault}

pub leaf_operand : {A : Type 0} (d : ℕ) (x : List ℕ) (l : Leaf) (r : Read A) → a_leaf l
    ≡ opening d x → ReadsLeaf d l r → ReadsOperand d x r
leaf_operand d x l (Ok r) e h = (
  leaf (formula_of r.0),
  subst (λ n. IsLeafAt d (formula_of r.0) n (Ok r.1.now)) e h,
  refl,
)
leaf_operand d x l (Err (error.Memory refusal)) e h = tt
leaf_operand d x l (Err (error.Fault f)) e h =
    (leaf h.0, subst (λ n. IsLeafAt d h.0 n (Err (fault_of f))) e h.1)

pub prefix_operand : {A : Type 0} (d : ℕ) (x y z : List ℕ) (u : Unary) (f g : Formula A) →
    a_prefix u z ≡ opening d x
    → (a : Operand) × IsOperand (d - 1) a z (Ok y) × (formula_of f ≡ operand_tree a) → formula_of g
    ≡ tree.prefix u (formula_of f)
    → (a : Operand) × IsOperand d a x (Ok y) × (formula_of g ≡ operand_tree a)
prefix_operand d x y z u f g e read is =
    (prefixed u read.0, (z, sym e, read.1), is ∙ ap (tree.prefix u) read.2)

pub prefix_error : {A : Type 0} (d : ℕ) (x z : List ℕ) (u : Unary) (e : ReadError) (r : Read A) →
    a_prefix u z ≡ opening d x
    → ReadsOperand {A = A} (d - 1) z (Err e) → r ≡ Err e → ReadsOperand d x r
prefix_error d x z u (error.Memory refusal) r at h is = subst (ReadsOperand d x) (sym is) tt
prefix_error d x z u (error.Fault f) r at h is =
    subst (ReadsOperand d x) (sym is) (prefixed u h.0, (z, sym at, h.1))

pub enclosed_operand : {A : Type 0} (d : ℕ) (x y z v : List ℕ) (f : Formula A) → a_parenthesis z
    ≡ opening d x
    → (w : Whole) × IsWhole (d - 1) w z (Ok y) × (formula_of f ≡ whole_tree w) → Ok v
    ≡ closed 41 (Ok y)
    → (a : Operand) × IsOperand d a x (Ok v) × (formula_of f ≡ operand_tree a)
enclosed_operand d x y z v f e read is = (enclosed read.0, (z, sym e, Ok y, read.1, is), read.2)

pub enclosed_error : {A : Type 0} (d : ℕ) (x z : List ℕ) (e : ReadError) (r : Read A) →
    a_parenthesis z ≡ opening d x
    → ReadsWhole {A = A} (d - 1) z (Err e) → r ≡ Err e → ReadsOperand d x r
enclosed_error d x z (error.Memory refusal) r at h is = subst (ReadsOperand d x) (sym is) tt
enclosed_error d x z (error.Fault f) r at h is =
    subst (ReadsOperand d x) (sym is) (enclosed h.0, (z, sym at, Err (fault_of f), h.1, refl))

pub unclosed_operand : (d : ℕ) (x y z : List ℕ) (f : tree.Formula) (e : FormulaFault) →
    a_parenthesis z ≡ opening d x
    → (w : Whole) × IsWhole (d - 1) w z (Ok y) × (f ≡ whole_tree w) → Err e ≡ closed 41 (Ok y) →
    (a : Operand) × IsOperand d a x (Err e)
unclosed_operand d x y z f e at read is = (enclosed read.0, (z, sym at, Ok y, read.1, is))

pub call_operand : {A : Type 0} (d : ℕ) (x y z : List ℕ) (g : Function)
    (fs : Rc (Vec (Formula A) A) A) → a_call g z ≡ opening d x
    → (args : Arguments) × IsArguments (d - 1) g args z (Ok y)
    × (formulas_then fs.value.items no_formulas ≡ argument_trees args)
    → (a : Operand) × IsOperand d a x (Ok y) × (formula_of (Call g fs) ≡ operand_tree a)
call_operand d x y z g fs e read = (
  called g read.0,
  (z, sym e, read.1),
  view_Call g fs
      ∙ ap (tree.call g) read.2,
)

pub call_error : {A : Type 0} (d : ℕ) (x z : List ℕ) (g : Function) (e : ReadError) (r : Read A) →
    a_call g z ≡ opening d x
    → ReadsArguments {A = A} (d - 1) g z (Err e) → r ≡ Err e → ReadsOperand d x r
call_error d x z g (error.Memory refusal) r at h is = subst (ReadsOperand d x) (sym is) tt
call_error d x z g (error.Fault f) r at h is =
    subst (ReadsOperand d x) (sym is) (called g h.0, (z, sym at, h.1))

-- an error of an operand is that of the formula
pub first_error : {A : Type 0} (d : ℕ) (x : List ℕ) (e : ReadError) (r : Read A) →
    ReadsOperand {A = A} d x (Err e) → r ≡ Err e → ReadsWhole d x r
first_error d x (error.Memory refusal) r h is = subst (ReadsWhole d x) (sym is) tt
first_error d x (error.Fault f) r h is =
    subst (ReadsWhole d x) (sym is) (first_fault d x (fault_of f) h)

pub link_error : {A : Type 0} (d : ℕ) (x y z : List ℕ) (f : tree.Formula) (i : Infix)
    (e : ReadError) (ls : List (Link A)) (r : Read A)
    → WholeSoFar d x y f ls → an_infix i z ≡ following d y → ReadsOperand {A = A} d z (Err e) → r
    ≡ Err e → ReadsWhole d x r
link_error d x y z f i (error.Memory refusal) ls r so_far at h is =
    subst (ReadsWhole d x) (sym is) tt
link_error d x y z f i (error.Fault e) ls r so_far at h is =
    subst (ReadsWhole d x) (sym is) (link_fault d x y z f i (fault_of e) ls so_far at h)

pub argument_error : {A : Type 0} (d : ℕ) (g : Function) (x y : List ℕ) (e : ReadError)
    (fs : List (Formula A)) (r : ReadList A)
    → ArgumentsSoFar d g x y fs → ReadsWhole {A = A} d y (Err e) → r ≡ Err e →
    ReadsArguments d g x r
argument_error d g x y (error.Memory refusal) fs r so_far h is =
    subst (ReadsArguments d g x) (sym is) tt
argument_error d g x y (error.Fault e) fs r so_far h is =
    subst (ReadsArguments d g x) (sym is) (argument_fault d g x y (fault_of e) fs so_far h)

-- two formulas with a colon between them
abbrev ChosenBehind : ℕ → Whole → FormulaOutcome → FormulaOutcome → Type 0
ChosenBehind d w o r = Goes r (w ≡ nothing_whole) (λ y. IsWhole d w y o) o

pub choice_read : {A : Type 0} (d : ℕ) (x y z v : List ℕ) (t : tree.Formula) (f g c : Formula A)
    → (w : Whole) × IsWhole d w x (Ok y) × (formula_of f ≡ whole_tree w) → Ok z ≡ closed 58 (Ok y)
    → (w : Whole) × IsWhole d w z (Ok v) × (formula_of g ≡ whole_tree w) → formula_of c
    ≡ tree.choice t (formula_of f) (formula_of g)
    → (a b : Whole) × AreChosen d a b x (Ok v)
    × (formula_of c ≡ tree.choice t (whole_tree a) (whole_tree b))
choice_read d x y z v t f g c one colon other is = (
  one.0,
  other.0,
  (Ok y, one.1, subst (ChosenBehind d other.0 (Ok v)) colon other.1),
  is ∙ ap (λ w. tree.choice t w (formula_of g)) one.2
      ∙ ap (tree.choice t (whole_tree one.0)) other.2,
)

pub yes_error : {A : Type 0} (d : ℕ) (x : List ℕ) (t : tree.Formula) (e : ReadError) (r : Read A) →
    ReadsWhole {A = A} d x (Err e) → r ≡ Err e → ReadsChoice t d x r
yes_error d x t (error.Memory refusal) r h is = subst (ReadsChoice t d x) (sym is) tt
yes_error d x t (error.Fault f) r h is =
    subst (ReadsChoice t d x) (sym is) (h.0, nothing_whole, (Err (fault_of f), h.1, (refl, refl)))

pub colon_fault : (d : ℕ) (x y : List ℕ) (f : tree.Formula) (e : FormulaFault)
    → (w : Whole) × IsWhole d w x (Ok y) × (f ≡ whole_tree w) → Err e ≡ closed 58 (Ok y) →
    (a b : Whole) × AreChosen d a b x (Err e)
colon_fault d x y f e one colon = (
  one.0,
  nothing_whole,
  (
    Ok y,
    one.1,
    subst (ChosenBehind d nothing_whole (Err e)) colon (
      refl,
      refl,
    ),
  ),
)

pub no_error : {A : Type 0} (d : ℕ) (x y z : List ℕ) (t f : tree.Formula) (e : ReadError)
    (r : Read A)
    → (w : Whole) × IsWhole d w x (Ok y) × (f ≡ whole_tree w) → Ok z ≡ closed 58 (Ok y) →
    ReadsWhole {A = A} d z (Err e) → r ≡ Err e → ReadsChoice t d x r
no_error d x y z t f (error.Memory refusal) r one colon h is = subst (ReadsChoice t d x) (sym is) tt
no_error d x y z t f (error.Fault e) r one colon h is =
    subst (ReadsChoice t d x) (sym is) (
      one.0,
      h.0,
      (Ok y, one.1, subst (ChosenBehind d h.0 (Err (fault_of e))) colon h.1),
    )
