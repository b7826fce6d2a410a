-- A formula that is evaluated by itself, and then what follows its value.
use Rattle.std.proofs.Common.{◌≡◌, ◌∙◌, ℕ, zero, suc, List, [], ◌∷◌, ◌++◌, Bool, true, false, Some, None, Result, Ok, Err, if◌then◌else◌, refl, sym}
use Rattle.meanings.specs.Meaning.{Meaning, Gives, Raises, Splits, Matches, truth}
use Rattle.operators.specs.Binary.{binary}
use Rattle.operators.specs.Function as function
use Rattle.operators.specs.Truth.{truth_of}
use Rattle.operators.specs.Unary.{unary}
use Rattle.operators.specs.Value.{written}
use Rattle.plan.specs.Plan.{Reads, Calls, and_then, onward}
use Rattle.state.specs.Evaluated.{on_truth, told, joined, evaluated, linked, arguments}
use Rattle.state.specs.Listed.{on_list, with_list}
use Rattle.state.specs.Meant.{on_meaning}
use Rattle.state.specs.Outcome as outcome
use Rattle.state.specs.Piece.{ListText, Script, TestText}
use Rattle.state.specs.Prelude.{Course, Flaw, Outcome, ScriptTree, Status, gives, inside, on_value}
use Rattle.state.specs.Variables.{found, reads, spelled}
use Rattle.state.specs.Words.{nested, parts}
use Rattle.tcltext.specs.Flaw.{Flaw as ListFlaw}
use Rattle.tclparse.specs.Formula.{Formula, numeral, text, call, prefix, row, choice, Links, no_links, link, Formulas, no_formulas, formula}
use Rattle.tclparse.specs.Tree.{Parts, no_parts, byte, variable, element, script}
use Rattle.tclparse.specs.declared.operator.Infix.{Infix}
use Rattle.tclparse.specs.declared.operator.Infix.TheVariants.{Both, AndAlso, OrElse}
use Rattle.tclstate.specs.Scopes.{Trouble, read}

-- what is done with a value
abbrev Next : Type 0
Next = Status → List ℕ → Course

-- what follows a value follows the course by which the value is had
module _ (k : Next) where
  abbrev after : Course → Course
  after course = and_then course (onward (on_value k))

  abbrev passed : Next → Next
  passed next = λ t value. after (next t value)

  value_then : (next : Next) (s : Status) (o : Outcome) →
      after (on_value next s o) ≡ on_value (passed next) s o
  value_then next s (outcome.Gives value) = refl
  value_then next s (outcome.Leaves code value) = refl
  value_then next s (outcome.Stops stop) = refl

  inside_then : (levels : ℕ) (tree : ScriptTree) (s : Status) (next : Next) →
      after (inside levels tree s (on_value next)) ≡ inside levels tree s (on_value (passed next))
  inside_then zero tree s next = refl
  inside_then (suc levels) tree s next =
      λ i. Calls (Script tree levels) s (λ t o. value_then next t o i)

  found_then : (r : Result (List ℕ) Trouble) (name : List ℕ) (s : Status)
      (next : List ℕ → Course) →
      after (found r name s next) ≡ found r name s (λ value. after (next value))
  found_then (Ok value) name s next = refl
  found_then (Err trouble) name s next = refl

  list_then : (s : Status) (next : List (List ℕ) → Course)
      (r : Result (List (List ℕ)) ListFlaw) →
      after (on_list s next r) ≡ on_list s (λ elements. after (next elements)) r
  list_then s next (Ok elements) = refl
  list_then s next (Err why) = refl

  meaning_then : (meaning : Meaning) (s : Status) (next : List ℕ → Course) →
      after (on_meaning meaning s next) ≡ on_meaning meaning s (λ value. after (next value))
  meaning_then (Gives value) s next = refl
  meaning_then (Raises flaw) s next = refl
  meaning_then (Splits subject more) s next =
      (λ i. Reads (ListText subject) (λ tree.
      list_then s (λ elements. on_meaning (more elements) s next) tree i))
      ∙ (λ i. with_list subject s (λ elements. meaning_then (more elements) s next i))
  meaning_then (Matches pattern subject more) s next =
      λ i. Reads (TestText pattern subject) (λ takes. meaning_then (more takes) s next i)

  truth_then : (r : Result Bool Flaw) (s : Status) (next : Bool → Course) →
      after (on_truth r s next) ≡ on_truth r s (λ holds. after (next holds))
  truth_then (Ok holds) s next = refl
  truth_then (Err flaw) s next = refl

  either_then : (holds : Bool) (p q : Course) →
      after (if holds then p else q) ≡ (if holds then after p else after q)
  either_then true p q = refl
  either_then false p q = refl

  parts_then : (levels : ℕ) (ps : Parts) (bytes : List ℕ) (s : Status) (next : Next) →
      after (parts levels ps bytes s next) ≡ parts levels ps bytes s (passed next)
  parts_then levels no_parts bytes s next = refl
  parts_then levels (byte b ps) bytes s next = parts_then levels ps (bytes ++ b ∷ []) s next
  parts_then levels (variable name ps) bytes s next =
      found_then (read s.scopes name None) (spelled name None) s _
      ∙ (λ i. reads name None s (λ value. parts_then levels ps (bytes ++ value) s next i))
  parts_then levels (element name is ps) bytes s next =
      parts_then levels is [] s _
      ∙ (λ i. parts levels is [] s (λ t index.
      (found_then (read t.scopes name (Some index)) (spelled name (Some index)) t
      (λ value. parts levels ps (bytes ++ value) t next)
      ∙ (λ j. reads name (Some index) t (λ value.
      parts_then levels ps (bytes ++ value) t next j))) i))
  parts_then levels (script commands ps) bytes s next =
      inside_then levels (record { commands = commands; fault = None }) s _
      ∙ (λ i. nested levels commands s (λ t value. parts_then levels ps (bytes ++ value) t next i))

  -- an operator, where what follows its right operand does so
  joined_then : (operator : Infix) (left : List ℕ) (s : Status) (right : Next → Course)
      (next : Next) → ((on : Next) → after (right on) ≡ right (passed on)) →
      after (joined operator left s right next) ≡ joined operator left s right (passed next)
  joined_then (Both operator) left s right next operand =
      operand _
      ∙ (λ i. right (λ t value. meaning_then (binary operator left value) t (λ v. next t v) i))
  joined_then AndAlso left s right next operand =
      truth_then (truth_of left) s _
      ∙ (λ i. on_truth (truth_of left) s (λ holds. (either_then holds _ _
      ∙ (λ j. if holds then (operand _
      ∙ (λ l. right (λ t value. meaning_then (told (truth_of value)) t (λ v. next t v) l))) j
      else after (next s (truth false)))) i))
  joined_then OrElse left s right next operand =
      truth_then (truth_of left) s _
      ∙ (λ i. on_truth (truth_of left) s (λ holds. (either_then holds _ _
      ∙ (λ j. if holds then after (next s (truth true)) else (operand _
      ∙ (λ l. right (λ t value. meaning_then (told (truth_of value)) t (λ v. next t v) l))) j)) i))

  mutual
    evaluated_by : (levels : ℕ) (f : Formula) (s : Status) (next : Next) →
        after (evaluated levels f s next) ≡ evaluated levels f s (passed next)
    evaluated_by levels (numeral digits) s next = meaning_then (written digits) s _
    evaluated_by levels (text ps) s next = parts_then levels ps [] s next
    evaluated_by levels (call g fs) s next =
        arguments_by levels fs [] s _
        ∙ (λ i. arguments levels fs [] s (λ t values.
        meaning_then (function.call g values) t (λ v. next t v) i))
    evaluated_by levels (prefix operator f) s next =
        evaluated_by levels f s _
        ∙ (λ i. evaluated levels f s (λ t value.
        meaning_then (unary operator value) t (λ v. next t v) i))
    evaluated_by levels (row f ls) s next =
        evaluated_by levels f s _
        ∙ (λ i. evaluated levels f s (λ t value. linked_by levels ls value t next i))
    evaluated_by levels (choice test one other) s next =
        evaluated_by levels test s _
        ∙ (λ i. evaluated levels test s (λ t value. (truth_then (truth_of value) t _
        ∙ (λ j. on_truth (truth_of value) t (λ holds. (either_then holds _ _
        ∙ (λ l. if holds then evaluated_by levels one t next l
        else evaluated_by levels other t next l)) j))) i))

    linked_by : (levels : ℕ) (ls : Links) (value : List ℕ) (s : Status) (next : Next) →
        after (linked levels ls value s next) ≡ linked levels ls value s (passed next)
    linked_by levels no_links value s next = refl
    linked_by levels (link operator f ls) value s next =
        joined_then operator value s _ _ (λ on. evaluated_by levels f s on)
        ∙ (λ i. joined operator value s (λ more. evaluated levels f s more)
        (λ t v. linked_by levels ls v t next i))

    arguments_by : (levels : ℕ) (fs : Formulas) (values : List (List ℕ)) (s : Status)
        (next : Status → List (List ℕ) → Course) →
        after (arguments levels fs values s next)
        ≡ arguments levels fs values s (λ t all. after (next t all))
    arguments_by levels no_formulas values s next = refl
    arguments_by levels (formula f fs) values s next =
        evaluated_by levels f s _
        ∙ (λ i. evaluated levels f s (λ t value.
        arguments_by levels fs (values ++ value ∷ []) t next i))

  -- a formula, and after what follows its value
  pub evaluated_then : (levels : ℕ) (f : Formula) (s : Status) →
      evaluated levels f s k
      ≡ and_then (evaluated levels f s (λ t value. gives value t)) (onward (on_value k))
  evaluated_then levels f s = sym (evaluated_by levels f s (λ t value. gives value t))
