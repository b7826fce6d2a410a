-- A text is read as the formula that it is.
use Rattle.std.proofs.Common.{◌≡◌, ℕ, List, Result, Ok, Err, sym, ap, subst}
use Rattle.state.specs.Prelude.{Flaw, Course, raises, Reaches, here, Status}
use Rattle.nesting.specs.Formulas.{flaw_of_formula, with_formula}
use Rattle.formulas.specs.Seen.{fault_of}
use Rattle.formulas.specs.declared.error.ReadError.{ReadError}
use Rattle.formulas.specs.declared.error.ReadError.TheVariants as error
use Rattle.formulas.specs.declared.fault.Fault.{Fault}
use Rattle.code.specs.ReadsCode.{ReadsCode}
use Rattle.state.proofs.Reaches.{same_reaches}
use Rattle.state.specs.Piece.{FormulaText}
use Rattle.state.specs.Reaches.{reads}
use Rattle.tclparse.specs.Formula.{Formula}
use Rattle.tclparse.specs.FormulaGrammar.{IsFormula}

module _ (text : List ℕ) where
  module _ (s : Status) (next : Formula → Course) where
    pub formula_reaches : (formula : Formula) → IsFormula (Ok formula) text →
        Reaches (with_formula text s next) (next formula)
    formula_reaches formula is = reads {text = FormulaText text} (Ok formula) is here

    pub no_formula_reaches : (read : Result Formula ReadError) (why : ReadError) (fault : Fault) (flaw : Flaw) → read ≡ Err why →
        why ≡ error.Fault fault → ReadsCode text read → flaw ≡ flaw_of_formula (fault_of fault) →
        Reaches (with_formula text s next) (raises flaw s)
    no_formula_reaches read why fault flaw is also reading same =
        let by_why : ReadError → Type 0 = λ e. ReadsCode text (Err e) in
        let told = subst by_why also (subst (λ r. ReadsCode text r) is reading) in
        reads {text = FormulaText text} (Err (fault_of fault)) told
        (same_reaches (ap (λ f. raises f s) (sym same)))
