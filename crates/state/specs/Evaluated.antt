-- What the values of formulas are.
use Rattle.std.specs.Prelude.{ℕ, List, [], ◌∷◌, ◌++◌, Bool, true, false, Result, Ok, Err, if◌then◌else◌}
use Rattle.acts.specs.Flaw.{Flaw}
use Rattle.meanings.specs.Meaning.{Meaning, Gives, Raises, truth}
use Rattle.operators.specs.Binary.{binary}
use Rattle.operators.specs.Function as function
use Rattle.operators.specs.Value.{written, result}
use Rattle.operators.specs.Truth.{truth_of}
use Rattle.operators.specs.Unary.{unary}
use Rattle.state.specs.Dialogue.{Course, raises}
use Rattle.state.specs.Meant.{on_meaning}
use Rattle.state.specs.Status.{Status}
use Rattle.tclparse.specs.Formula.{Formula, numeral, text, call, prefix, row, choice, Links, no_links, link, Formulas, no_formulas, formula}
use Rattle.tclparse.specs.declared.operator.Infix.{Infix}
use Rattle.tclparse.specs.declared.operator.Infix.TheVariants.{Both, AndAlso, OrElse}
use Rattle.state.specs.Words.{parts}

-- what follows a truth value, where there is one; else the flaw is raised (expr(n), operands)
abbrev pub on_truth : Result Bool Flaw → Status → (Bool → Course) → Course
on_truth (Ok holds) s next = next holds
on_truth (Err flaw) s next = raises flaw s

-- a truth value is given as 0 or 1 (expr(n), operators)
abbrev pub told : Result Bool Flaw → Meaning
told (Ok holds) = Gives (truth holds)
told (Err flaw) = Raises flaw

-- an operator after its left operand, with the right operand and what follows the operator's value:
-- && and || examine the left operand first, have the right one evaluated only where it is needed,
-- and give 0 or 1; all other operators examine both once both are evaluated (expr(n), operators)
abbrev pub joined : Infix → List ℕ → Status → ((Status → List ℕ → Course) → Course) →
    (Status → List ℕ → Course) → Course
joined (Both operator) left s right next =
    right (λ t value. on_meaning (binary operator left value) t (λ v. next t v))
joined AndAlso left s right next =
    on_truth (truth_of left) s (λ holds.
    if holds then right (λ t value. on_meaning (told (truth_of value)) t (λ v. next t v))
    else next s (truth false))
joined OrElse left s right next =
    on_truth (truth_of left) s (λ holds.
    if holds then next s (truth true)
    else right (λ t value. on_meaning (told (truth_of value)) t (λ v. next t v)))

abbrev mutual
  -- a formula, and what follows its value: a numeral is given as it is written, a text as the
  -- joined values of its parts; an operator or a function examines its operands once all are
  -- evaluated, from left to right; of the two formulas after a test only the one that it chooses is
  -- evaluated (expr(n))
  pub evaluated : ℕ → Formula → Status → (Status → List ℕ → Course) → Course
  evaluated levels (numeral digits) s next = on_meaning (written digits) s (λ v. next s v)
  evaluated levels (text ps) s next = parts levels ps [] s next
  evaluated levels (call g fs) s next =
      arguments levels fs [] s (λ t values. on_meaning (function.call g values) t (λ v. next t v))
  evaluated levels (prefix operator f) s next =
      evaluated levels f s (λ t value. on_meaning (unary operator value) t (λ v. next t v))
  evaluated levels (row f ls) s next =
      evaluated levels f s (λ t value. linked levels ls value t next)
  evaluated levels (choice test one other) s next =
      evaluated levels test s (λ t value. on_truth (truth_of value) t (λ holds.
      if holds then evaluated levels one t next else evaluated levels other t next))

  -- operators in a row, which group to the left, after the value of what stands before them, and
  -- what follows the value of the row (expr(n), operators)
  pub linked : ℕ → Links → List ℕ → Status → (Status → List ℕ → Course) → Course
  linked levels no_links value s next = next s value
  linked levels (link operator f ls) value s next =
      joined operator value s (λ more. evaluated levels f s more)
      (λ t v. linked levels ls v t next)

  -- a call's arguments after the values so far, from left to right, and what follows the values of
  -- all arguments (mathfunc(n))
  pub arguments : ℕ → Formulas → List (List ℕ) → Status →
      (Status → List (List ℕ) → Course) → Course
  arguments levels no_formulas values s next = next s values
  arguments levels (formula f fs) values s next =
      evaluated levels f s (λ t value. arguments levels fs (values ++ value ∷ []) t next)

-- a formula, and what follows its truth value, where it has one (if(n), while(n))
abbrev pub tested : ℕ → Formula → Status → (Status → Bool → Course) → Course
tested levels f s next =
    evaluated levels f s (λ t value. on_truth (truth_of value) t (λ holds. next t holds))

-- a formula, and what follows its result: a number in decimal, all else as it stands (expr(n))
abbrev pub valued : ℕ → Formula → Status → (Status → List ℕ → Course) → Course
valued levels f s next = evaluated levels f s (λ t value. next t (result value))
