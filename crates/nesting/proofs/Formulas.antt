-- What holds of a formula where it holds of all that may follow it.
use Rattle.std.proofs.Common.{ℕ, List, [], ◌∷◌, ◌++◌, Bool, true, false, Result, Ok, Err, if◌then◌else◌}
use Rattle.state.specs.Prelude.{Flaw, Course, Status}
use Rattle.meanings.specs.Meaning.{Meaning, Gives, Raises, Splits, Matches, truth}
use Rattle.operators.specs.Binary.{binary}
use Rattle.operators.specs.Function as function
use Rattle.operators.specs.Truth.{truth_of}
use Rattle.operators.specs.Unary.{unary}
use Rattle.operators.specs.Value.{written, result}
use Rattle.state.specs.Meant.{on_meaning}
use Rattle.state.specs.Piece.{TestText}
use Rattle.state.proofs.Closed.{Closed, listed_closed, raises_closed}
use Rattle.tclparse.specs.Formula.{Formula, numeral, text, call, prefix, row, choice, Links, no_links, link, Formulas, no_formulas, formula}
use Rattle.tclparse.specs.declared.operator.Infix.{Infix}
use Rattle.tclparse.specs.declared.operator.Infix.TheVariants.{Both, AndAlso, OrElse}
use Rattle.state.proofs.Words.{parts_closed}
use Rattle.state.specs.Evaluated.{on_truth, told, joined, evaluated, linked, arguments, tested, valued}

-- what is done with a value
abbrev Next : Type 0
Next = Status → List ℕ → Course

module _ (P : Status → Course → Type 0) (closed : Closed P) where
  meaning_closed : (meaning : Meaning) (s : Status) (next : List ℕ → Course) →
      ((v : List ℕ) → P s (next v)) → P s (on_meaning meaning s next)
  meaning_closed (Gives value) s next each = each value
  meaning_closed (Raises flaw) s next each = raises_closed P closed flaw s
  meaning_closed (Splits subject more) s next each =
      listed_closed P closed subject s _
      (λ elements. meaning_closed (more elements) s next each)
  meaning_closed (Matches pattern subject more) s next each =
      closed.reading (TestText pattern subject) s _
      (λ takes. meaning_closed (more takes) s next each)

  truth_closed : (r : Result Bool Flaw) (s : Status) (next : Bool → Course) →
      ((holds : Bool) → P s (next holds)) → P s (on_truth r s next)
  truth_closed (Ok holds) s next each = each holds
  truth_closed (Err flaw) s next each = raises_closed P closed flaw s

  either_closed : (holds : Bool) (s : Status) (p q : Course) → P s p → P s q →
      P s (if holds then p else q)
  either_closed true s p q one other = one
  either_closed false s p q one other = other

  -- an operator, where P holds of its right operand
  joined_closed : (operator : Infix) (left : List ℕ) (s : Status) (right : Next → Course)
      (next : Next) →
      ((on : Next) → ((u : Status) (v : List ℕ) → P u (on u v)) → P s (right on)) →
      ((u : Status) (v : List ℕ) → P u (next u v)) → P s (joined operator left s right next)
  joined_closed (Both operator) left s right next operand each =
      operand _ (λ u v. meaning_closed (binary operator left v) u _ (λ w. each u w))
  joined_closed AndAlso left s right next operand each =
      truth_closed (truth_of left) s _ (λ holds.
      either_closed holds s _ _
      (operand _ (λ u v. meaning_closed (told (truth_of v)) u _ (λ w. each u w)))
      (each s (truth false)))
  joined_closed OrElse left s right next operand each =
      truth_closed (truth_of left) s _ (λ holds.
      either_closed holds s _ _ (each s (truth true))
      (operand _ (λ u v. meaning_closed (told (truth_of v)) u _ (λ w. each u w))))

  mutual
    -- a formula
    pub evaluated_closed : (levels : ℕ) (f : Formula) (s : Status) (next : Next) →
        ((u : Status) (v : List ℕ) → P u (next u v)) → P s (evaluated levels f s next)
    evaluated_closed levels (numeral digits) s next each =
        meaning_closed (written digits) s _ (λ v. each s v)
    evaluated_closed levels (text ps) s next each =
        parts_closed P closed levels ps [] s next each
    evaluated_closed levels (call g fs) s next each =
        arguments_closed levels fs [] s _
        (λ u vs. meaning_closed (function.call g vs) u _ (λ v. each u v))
    evaluated_closed levels (prefix operator f) s next each =
        evaluated_closed levels f s _
        (λ u v. meaning_closed (unary operator v) u _ (λ w. each u w))
    evaluated_closed levels (row f ls) s next each =
        evaluated_closed levels f s _ (λ u v. linked_closed levels ls v u next each)
    evaluated_closed levels (choice test one other) s next each =
        evaluated_closed levels test s _ (λ u v.
        truth_closed (truth_of v) u _ (λ holds.
        either_closed holds u _ _ (evaluated_closed levels one u next each)
        (evaluated_closed levels other u next each)))

    linked_closed : (levels : ℕ) (ls : Links) (value : List ℕ) (s : Status) (next : Next) →
        ((u : Status) (v : List ℕ) → P u (next u v)) → P s (linked levels ls value s next)
    linked_closed levels no_links value s next each = each s value
    linked_closed levels (link operator f ls) value s next each =
        joined_closed operator value s _ _ (λ on. evaluated_closed levels f s on)
        (λ u v. linked_closed levels ls v u next each)

    arguments_closed : (levels : ℕ) (fs : Formulas) (values : List (List ℕ)) (s : Status)
        (next : Status → List (List ℕ) → Course) →
        ((u : Status) (vs : List (List ℕ)) → P u (next u vs)) →
        P s (arguments levels fs values s next)
    arguments_closed levels no_formulas values s next each = each s values
    arguments_closed levels (formula f fs) values s next each =
        evaluated_closed levels f s _
        (λ u v. arguments_closed levels fs (values ++ v ∷ []) u next each)

  -- a formula that is asked for a truth value, or for its result
  pub tested_closed : (levels : ℕ) (f : Formula) (s : Status) (next : Status → Bool → Course) →
      ((u : Status) (holds : Bool) → P u (next u holds)) → P s (tested levels f s next)
  tested_closed levels f s next each =
      evaluated_closed levels f s _
      (λ u v. truth_closed (truth_of v) u _ (λ holds. each u holds))

  pub valued_closed : (levels : ℕ) (f : Formula) (s : Status) (next : Next) →
      ((u : Status) (v : List ℕ) → P u (next u v)) → P s (valued levels f s next)
  valued_closed levels f s next each = evaluated_closed levels f s _ (λ u v. each u (result v))
