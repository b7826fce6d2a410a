-- How the logic stores a formula.
use Prim.Native.Nat.{zero, suc}
use Rattle.std.specs.Prelude.{◌≡◌, ℕ, [], ◌∷◌, get_or, refl}
use base.Stored.{Coded, Gv, gnil, gnum, gcons}
use mathlib.Core.Path.{sym, ◌∙◌, ap}
use Rattle.tclparse.specs.ScriptTree.{bytes_back, bytes_in, parts_back, parts_in, stored_bytes, stored_parts}
use Rattle.tclparse.specs.Formula.{Formula, numeral, text, call, prefix, row, choice, Links, no_links, link, Formulas, no_formulas, formula}
use Rattle.tclparse.specs.declared.operator.Binary.{Binary}
use Rattle.tclparse.specs.declared.operator.Binary.TheVariants as both
use Rattle.tclparse.specs.declared.operator.Function.{Function}
use Rattle.tclparse.specs.declared.operator.Function.TheVariants as named
use Rattle.tclparse.specs.declared.operator.Infix.{Infix}
use Rattle.tclparse.specs.declared.operator.Infix.TheVariants.{Both, AndAlso, OrElse}
use Rattle.tclparse.specs.declared.operator.Unary.{Unary}
use Rattle.tclparse.specs.declared.operator.Unary.TheVariants as one

-- an operator before its operand is stored as its place among those
pub unary_place : Unary → ℕ
unary_place one.Negate = 0
unary_place one.Plus = 1
unary_place one.Complement = 2
unary_place one.Not = 3

pub unary_at : ℕ → Unary
unary_at n = get_or (one.Negate ∷ one.Plus ∷ one.Complement ∷ one.Not ∷ []) n one.Negate

pub unary_back : (it : Unary) → unary_at (unary_place it) ≡ it
unfolding unary_place unary_at
unary_back one.Negate = refl
unary_back one.Plus = refl
unary_back one.Complement = refl
unary_back one.Not = refl

-- so is one between two operands
pub binary_place : Binary → ℕ
binary_place both.Multiply = 0
binary_place both.Divide = 1
binary_place both.Remainder = 2
binary_place both.Add = 3
binary_place both.Subtract = 4
binary_place both.ShiftLeft = 5
binary_place both.ShiftRight = 6
binary_place both.Less = 7
binary_place both.Greater = 8
binary_place both.LessEqual = 9
binary_place both.GreaterEqual = 10
binary_place both.Equal = 11
binary_place both.NotEqual = 12
binary_place both.TextEqual = 13
binary_place both.TextNotEqual = 14
binary_place both.In = 15
binary_place both.NotIn = 16
binary_place both.And = 17
binary_place both.Xor = 18
binary_place both.Or = 19

pub binary_at : ℕ → Binary
binary_at n = get_or (both.Multiply ∷ both.Divide ∷ both.Remainder ∷ both.Add ∷ both.Subtract ∷
    both.ShiftLeft ∷ both.ShiftRight ∷ both.Less ∷ both.Greater ∷ both.LessEqual ∷
    both.GreaterEqual ∷ both.Equal ∷ both.NotEqual ∷ both.TextEqual ∷
    both.TextNotEqual ∷ both.In ∷ both.NotIn ∷ both.And ∷ both.Xor ∷ both.Or ∷ []) n both.Multiply

pub binary_back : (it : Binary) → binary_at (binary_place it) ≡ it
unfolding binary_place binary_at
binary_back both.Multiply = refl
binary_back both.Divide = refl
binary_back both.Remainder = refl
binary_back both.Add = refl
binary_back both.Subtract = refl
binary_back both.ShiftLeft = refl
binary_back both.ShiftRight = refl
binary_back both.Less = refl
binary_back both.Greater = refl
binary_back both.LessEqual = refl
binary_back both.GreaterEqual = refl
binary_back both.Equal = refl
binary_back both.NotEqual = refl
binary_back both.TextEqual = refl
binary_back both.TextNotEqual = refl
binary_back both.In = refl
binary_back both.NotIn = refl
binary_back both.And = refl
binary_back both.Xor = refl
binary_back both.Or = refl

-- and so is a function
pub function_place : Function → ℕ
function_place named.Abs = 0
function_place named.Min = 1
function_place named.Max = 2

pub function_at : ℕ → Function
function_at n = get_or (named.Abs ∷ named.Min ∷ named.Max ∷ []) n named.Abs

pub function_back : (it : Function) → function_at (function_place it) ≡ it
unfolding function_place function_at
function_back named.Abs = refl
function_back named.Min = refl
function_back named.Max = refl

-- what joins two operands
pub stored_infix : Infix → Gv
stored_infix (Both operator) = gcons (gnum (binary_place operator)) gnil
stored_infix AndAlso = gnum 0
stored_infix OrElse = gnum 1

pub infix_in : Gv → Infix
infix_in (gcons (gnum n) _) = Both (binary_at n)
infix_in (gnum zero) = AndAlso
infix_in _ = OrElse

pub infix_back : (it : Infix) → infix_in (stored_infix it) ≡ it
unfolding stored_infix infix_in
infix_back (Both operator) = ap (λ o. Both o) (binary_back operator)
infix_back AndAlso = refl
infix_back OrElse = refl

-- a formula, by what stands first
mutual
  pub stored_formula : Formula → Gv
  stored_formula (numeral digits) = gcons (gnum 0) (stored_bytes digits)
  stored_formula (text ps) = gcons (gnum 1) (stored_parts ps)
  stored_formula (call g fs) = gcons (gnum 2) (gcons (gnum (function_place g)) (stored_formulas fs))
  stored_formula (prefix u f) = gcons (gnum 3) (gcons (gnum (unary_place u)) (stored_formula f))
  stored_formula (row f ls) = gcons (gnum 4) (gcons (stored_formula f) (stored_links ls))
  stored_formula (choice test chosen other) =
      gcons (gnum 5)
      (gcons (stored_formula test) (gcons (stored_formula chosen) (stored_formula other)))

  pub stored_links : Links → Gv
  stored_links no_links = gnil
  stored_links (link it f ls) =
      gcons (stored_infix it) (gcons (stored_formula f) (stored_links ls))

  pub stored_formulas : Formulas → Gv
  stored_formulas no_formulas = gnil
  stored_formulas (formula f fs) = gcons (stored_formula f) (stored_formulas fs)

mutual
  pub formula_in : Gv → Formula
  formula_in (gcons (gnum zero) g) = numeral (bytes_in g)
  formula_in (gcons (gnum (suc zero)) g) = text (parts_in g)
  formula_in (gcons (gnum (suc (suc zero))) (gcons (gnum n) g)) =
      call (function_at n) (formulas_in g)
  formula_in (gcons (gnum (suc (suc (suc zero)))) (gcons (gnum n) g)) =
      prefix (unary_at n) (formula_in g)
  formula_in (gcons (gnum (suc (suc (suc (suc zero))))) (gcons f g)) =
      row (formula_in f) (links_in g)
  formula_in (gcons (gnum (suc (suc (suc (suc (suc zero)))))) (gcons t (gcons y n))) =
      choice (formula_in t) (formula_in y) (formula_in n)
  formula_in _ = numeral []

  pub links_in : Gv → Links
  links_in (gcons it (gcons f g)) = link (infix_in it) (formula_in f) (links_in g)
  links_in _ = no_links

  pub formulas_in : Gv → Formulas
  formulas_in (gcons f g) = formula (formula_in f) (formulas_in g)
  formulas_in _ = no_formulas

mutual
  unfolding stored_formula stored_links stored_formulas formula_in links_in formulas_in

  pub formula_back : (f : Formula) → formula_in (stored_formula f) ≡ f
  formula_back (numeral digits) = ap numeral (bytes_back digits)
  formula_back (text ps) = ap text (parts_back ps)
  formula_back (call g fs) = λ i. call (function_back g i) (formulas_back fs i)
  formula_back (prefix u f) = λ i. prefix (unary_back u i) (formula_back f i)
  formula_back (row f ls) = λ i. row (formula_back f i) (links_back ls i)
  formula_back (choice test chosen other) =
      λ i. choice (formula_back test i) (formula_back chosen i) (formula_back other i)

  pub links_back : (ls : Links) → links_in (stored_links ls) ≡ ls
  links_back no_links = refl
  links_back (link it f ls) = λ i. link (infix_back it i) (formula_back f i) (links_back ls i)

  pub formulas_back : (fs : Formulas) → formulas_in (stored_formulas fs) ≡ fs
  formulas_back no_formulas = refl
  formulas_back (formula f fs) = λ i. formula (formula_back f i) (formulas_back fs i)

-- how the logic stores a formula
abbrev pub stored : Coded Formula
stored = record {
  code = stored_formula;
  inj = λ x y same. sym (formula_back x) ∙ ap formula_in same ∙ formula_back y;
}
