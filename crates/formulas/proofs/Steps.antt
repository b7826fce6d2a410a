-- One more step of a reader: what comes after it completes what was read before it.
use Rattle.std.proofs.Common.{◌≡◌, ℕ, ◌-◌, List, [], ◌∷◌, ◌++◌, Option, Some, None, Result, Ok, Err, Vec, refl, sym, ap, subst, ◌∙◌}
use Rattle.std.specs.Borrow.{Bor}
use Rattle.std.specs.declared.rc.Rc.{Rc}
use Rattle.tclparse.specs.declared.operator.Function.{Function}
use Rattle.tclparse.specs.declared.operator.Infix.{Infix}
use Rattle.tclparse.specs.Formula as tree
use Rattle.tclparse.specs.Formula.{Links, no_links, link, Formulas, no_formulas, formula}
use Rattle.tclparse.specs.Grouping.{grouped}
use Rattle.tclparse.specs.FormulaFault.{FormulaFault}
use Rattle.tclparse.specs.FormulaPiece.{end, fault, an_infix, a_choice, following}
use Rattle.tclparse.specs.FormulaText.{Operand, Whole, whole, Rest, over, joined, chosen, Arguments, last, further, operand_tree, whole_tree, rest_links, rest_tree, argument_trees}
use Rattle.tclparse.specs.FormulaGrammar.{FormulaOutcome, Goes, closed, behind_comma, IsOver, IsOperand, IsWhole, IsRest, IsArguments}
use Rattle.formulas.specs.Seen.{fault_of}
use Rattle.formulas.specs.View.{formula_of, links_then, formulas_then}
use Rattle.formulas.specs.Reads.{Read, ReadList, ReadsOperand, ReadsWhole, ReadsChoice, ReadsArguments, AreChosen}
use Rattle.formulas.specs.declared.tree.Formula.{Formula}
use Rattle.formulas.specs.declared.tree.Formula.TheViews.{roll-Link}
use Rattle.formulas.specs.declared.tree.Link.{Link}
use Rattle.formulas.specs.declared.error.ReadError.{ReadError}
use Rattle.formulas.specs.declared.error.ReadError.TheVariants as error
use Rattle.formulas.proofs.Trees.{links_push, view_of_link, formulas_push}

-- What was read of the text x, with y left: the operand f and these operators. Whatever completes y
-- completes x.
abbrev pub WholeSoFar : {A : Type 0} → ℕ → List ℕ → List ℕ → tree.Formula → List (Link A) → Type 0
WholeSoFar d x y f ls =
    (t : Rest) (o : FormulaOutcome) → IsRest d t y o
    → (w : Whole) × IsWhole d w x o × (whole_tree w
    ≡ rest_tree t (grouped f (links_then ls (rest_links t))))

pub first_operand : {A : Type 0} (d : ℕ) (x y : List ℕ) (f : tree.Formula) (ls : List (Link A))
    → (a : Operand) × IsOperand d a x (Ok y) × (f ≡ operand_tree a) → ls ≡ [] →
    WholeSoFar d x y f ls
first_operand d x y f ls read none t o h = (
  whole read.0 t,
  (Ok y, read.1, h),
  ap (λ g. rest_tree t (grouped g (rest_links t))) (sym read.2)
      ∙ ap (λ m. rest_tree t (grouped f (links_then m (rest_links t)))) (sym none),
)

pub first_fault : (d : ℕ) (x : List ℕ) (e : FormulaFault) → (a : Operand) × IsOperand d a x (Err e)
    → (w : Whole) × IsWhole d w x (Err e)
first_fault d x e read = (whole read.0 over, (Err e, read.1, (refl, refl)))

pub after_link : {A : Type 0} (d : ℕ) (x y z u : List ℕ) (f : tree.Formula) (i : Infix)
    (g : Formula A) (ls ms : List (Link A))
    → WholeSoFar d x y f ls → an_infix i z ≡ following d y → (a : Operand) × IsOperand d a z (Ok u)
    × (formula_of g ≡ operand_tree a)
    → ms ≡ ls ++ roll-Link A (record { operator = i; operand = g }) ∷ [] → WholeSoFar d x u f ms
after_link {A} d x y z u f i g ls ms so_far e read pushed t o h =
    let l = roll-Link A (record { operator = i; operand = g }) in
    let k = so_far (joined i read.0 t) o (z, sym e, Ok u, read.1, h) in
    let same : links_then ms (rest_links t) ≡ links_then ls
    (link i (operand_tree read.0) (rest_links t)) =
    ap (λ m. links_then m (rest_links t)) pushed ∙ links_push ls l (rest_links t)
    ∙ ap (links_then ls) (view_of_link i g (rest_links t)
    ∙ ap (λ v. link i v (rest_links t)) read.2) in
    (k.0, k.1, k.2 ∙ ap (λ l. rest_tree t (grouped f l)) (sym same))

pub link_fault : {A : Type 0} (d : ℕ) (x y z : List ℕ) (f : tree.Formula) (i : Infix)
    (e : FormulaFault) (ls : List (Link A))
    → WholeSoFar d x y f ls → an_infix i z ≡ following d y → (a : Operand) × IsOperand d a z (Err e)
    → (w : Whole) × IsWhole d w x (Err e)
link_fault d x y z f i e ls so_far at read =
    let k = so_far (joined i read.0 over) (Err e) (z, sym at, Err e, read.1, (refl, refl)) in
    (k.0, k.1)

pub over_at : {A : Type 0} (d : ℕ) (x y z : List ℕ) (f g : tree.Formula) (ls : List (Link A))
    → WholeSoFar d x y f ls → end z ≡ following d y → g ≡ grouped f (links_then ls no_links) →
    (w : Whole) × IsWhole d w x (Ok z) × (g ≡ whole_tree w)
over_at d x y z f g ls so_far at is =
    let k = so_far over (Ok z) (subst (λ n. IsOver n (Ok z)) at refl) in (k.0, k.1, is ∙ sym k.2)

pub fault_at : {A : Type 0} (d : ℕ) (x y : List ℕ) (f : tree.Formula) (e : FormulaFault)
    (ls : List (Link A))
    → WholeSoFar d x y f ls → fault e ≡ following d y → (w : Whole) × IsWhole d w x (Err e)
fault_at d x y f e ls so_far at =
    let k = so_far over (Err e) (subst (λ n. IsOver n (Err e)) at refl) in (k.0, k.1)

choice_ok : {A : Type 0} (d : ℕ) (x y z : List ℕ) (f g : tree.Formula) (ls : List (Link A))
    (r : Formula A × Bor (List ℕ))
    → WholeSoFar d x y f ls → a_choice z ≡ following d y → g ≡ grouped f (links_then ls no_links)
    → ReadsChoice g (d - 1) z (Ok r) → ReadsWhole d x (Ok r)
choice_ok d x y z f g ls r so_far at is read =
    let k = so_far (chosen read.0 read.1) (Ok r.1.now) (z, sym at, read.2.0, read.2.1, read.2.2) in (
      k.0,
      k.1,
      read.3 ∙ ap (λ t. tree.choice t (whole_tree read.0) (whole_tree read.1)) is
          ∙ sym k.2,
    )

choice_fault : {A : Type 0} (d : ℕ) (x y z : List ℕ) (f : tree.Formula) (e : FormulaFault)
    (ls : List (Link A))
    → WholeSoFar d x y f ls → a_choice z ≡ following d y → (v w : Whole)
    × AreChosen (d - 1) v w z (Err e) → (w : Whole) × IsWhole d w x (Err e)
choice_fault d x y z f e ls so_far at read =
    let k = so_far (chosen read.0 read.1) (Err e) (z, sym at, read.2.0, read.2.1, read.2.2) in
    (k.0, k.1)

pub choice_at : {A : Type 0} (d : ℕ) (x y z : List ℕ) (f g : tree.Formula) (ls : List (Link A))
    (r : Read A)
    → WholeSoFar d x y f ls → a_choice z ≡ following d y → g ≡ grouped f (links_then ls no_links)
    → ReadsChoice g (d - 1) z r → ReadsWhole d x r
choice_at d x y z f g ls (Ok r) so_far at is read = choice_ok d x y z f g ls r so_far at is read
choice_at d x y z f g ls (Err (error.Memory refusal)) so_far at is read = tt
choice_at d x y z f g ls (Err (error.Fault e)) so_far at is read =
    choice_fault d x y z f (fault_of e) ls so_far at read

-- What was read of a call's arguments.
abbrev pub ArgumentsSoFar : {A : Type 0} → ℕ → Function → List ℕ → List ℕ → List (Formula A) →
    Type 0
ArgumentsSoFar d g x y fs =
    (t : Arguments) (o : FormulaOutcome) → IsArguments d g t y o
    → (args : Arguments) × IsArguments d g args x o
    × (argument_trees args ≡ formulas_then fs (argument_trees t))

pub no_arguments : (A : Type 0) (d : ℕ) (g : Function) (x : List ℕ) →
    ArgumentsSoFar {A = A} d g x x []
no_arguments A d g x t o h = (t, h, refl)

pub after_argument : {A : Type 0} (d : ℕ) (g : Function) (x y z u : List ℕ) (f : Formula A)
    (fs hs : List (Formula A))
    → ArgumentsSoFar d g x y fs → (w : Whole) × IsWhole d w y (Ok z) × (formula_of f ≡ whole_tree w)
    → behind_comma g (Ok z) ≡ Some u
    → hs ≡ fs ++ f ∷ [] → ArgumentsSoFar d g x u hs
after_argument d g x y z u f fs hs so_far read comma pushed t o h =
    let k = so_far (further read.0 t) o (Ok z, read.1, u, comma, h) in
    let same : formulas_then hs (argument_trees t)
    ≡ formulas_then fs (formula (whole_tree read.0) (argument_trees t)) =
    ap (λ l. formulas_then l (argument_trees t)) pushed ∙ formulas_push fs f (argument_trees t)
    ∙ ap (λ v. formulas_then fs (formula v (argument_trees t))) read.2 in
    (k.0, k.1, k.2 ∙ sym same)

pub argument_fault : {A : Type 0} (d : ℕ) (g : Function) (x y : List ℕ) (e : FormulaFault)
    (fs : List (Formula A))
    → ArgumentsSoFar d g x y fs → (w : Whole) × IsWhole d w y (Err e) → (args : Arguments)
    × IsArguments d g args x (Err e)
argument_fault d g x y e fs so_far read =
    let k = so_far (last read.0) (Err e) (Err e, read.1, refl, refl) in (k.0, k.1)

pub last_fault : {A : Type 0} (d : ℕ) (g : Function) (x y z : List ℕ) (e : FormulaFault)
    (f : tree.Formula) (fs : List (Formula A))
    → ArgumentsSoFar d g x y fs → (w : Whole) × IsWhole d w y (Ok z) × (f ≡ whole_tree w) →
    behind_comma g (Ok z) ≡ None
    → Err e ≡ closed 41 (Ok z) → (args : Arguments) × IsArguments d g args x (Err e)
last_fault d g x y z e f fs so_far read none is =
    let k = so_far (last read.0) (Err e) (Ok z, read.1, none, is) in (k.0, k.1)

pub last_argument : {A : Type 0} (d : ℕ) (g : Function) (x y z u : List ℕ) (f : Formula A)
    (fs hs : List (Formula A))
    → ArgumentsSoFar d g x y fs → (w : Whole) × IsWhole d w y (Ok z) × (formula_of f ≡ whole_tree w)
    → behind_comma g (Ok z) ≡ None
    → Ok u ≡ closed 41 (Ok z) → hs ≡ fs ++ f ∷ []
    → (args : Arguments) × IsArguments d g args x (Ok u)
    × (formulas_then hs no_formulas ≡ argument_trees args)
last_argument d g x y z u f fs hs so_far read none is pushed =
    let k = so_far (last read.0) (Ok u) (Ok z, read.1, none, is) in
    let same : formulas_then hs no_formulas ≡ formulas_then fs
    (formula (whole_tree read.0) no_formulas) =
    ap (λ l. formulas_then l no_formulas) pushed ∙ formulas_push fs f no_formulas
    ∙ ap (λ v. formulas_then fs (formula v no_formulas)) read.2 in
    (k.0, k.1, same ∙ sym k.2)
