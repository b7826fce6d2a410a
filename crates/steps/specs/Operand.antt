-- A formula that is being evaluated, as the proof sees it.
use Rattle.std.specs.Prelude.{ℕ, List, [], ◌∷◌, ◌++◌, Option, if◌then◌else◌, reverse}
use Rattle.code.specs.Branches.{Branch}
use Rattle.nesting.specs.Conditional.{chosen}
use Rattle.nesting.specs.Loop.{turned}
use Rattle.state.specs.Evaluated.{arguments, evaluated, linked, on_truth, told}
use Rattle.operators.specs.Binary.{binary}
use Rattle.operators.specs.Function as function
use Rattle.operators.specs.Truth.{truth_of}
use Rattle.operators.specs.Unary.{unary}
use Rattle.operators.specs.Value.{result}
use Rattle.state.specs.Meant.{on_meaning}
use Rattle.state.specs.Prelude.{Course, gives, LoopTree, Status}
use Rattle.tclparse.specs.Formula.{Formula, Formulas, Links}
use Rattle.tclparse.specs.declared.operator.Binary.{Binary}
use Rattle.tclparse.specs.declared.operator.Function.{Function}
use Rattle.tclparse.specs.declared.operator.Unary.{Unary}

-- what an operand is evaluated for: a prefix operator; the operators after it in a row; an operator
-- with this left operand, in a row; the truth value of && or ||, in a row; a function with these
-- values so far, the last one first; a choice; what is chosen, after which the code goes on
-- elsewhere; if, with the body that runs where the value is true and what is done where it is not;
-- the next turn of a loop; the text that expr gives (expr(n); if(n); while(n))
pub data Outer : Type 0 where
  Prefixed : (operator : Unary) → Outer
  Row : (links : Links) → Outer
  Right : (operator : Binary) (left : List ℕ) (links : Links) → Outer
  Holds : (links : Links) → Outer
  Argument : (function : Function) (before : List (List ℕ)) (rest : Formulas) → Outer
  Test : (one other : Formula) → Outer
  Chosen : Outer
  Condition : (body : List ℕ) (more : List Branch) (otherwise : Option (List ℕ)) → Outer
  Turning : (loop : LoopTree) → Outer
  Resulting : Outer

-- what follows the value of an operand, by what it is evaluated for, the innermost first (expr(n))
abbrev pub operand_on : ℕ → List Outer → Status → List ℕ → Course
operand_on levels [] = λ s value. gives value s
operand_on levels (Prefixed operator ∷ outer) = λ s value.
    on_meaning (unary operator value) s (λ v. operand_on levels outer s v)
operand_on levels (Row links ∷ outer) = λ s value.
    linked levels links value s (operand_on levels outer)
operand_on levels (Right operator left links ∷ outer) = λ s value.
    on_meaning (binary operator left value) s (λ v.
    linked levels links v s (operand_on levels outer))
operand_on levels (Holds links ∷ outer) = λ s value.
    on_meaning (told (truth_of value)) s (λ v. linked levels links v s (operand_on levels outer))
operand_on levels (Argument g before rest ∷ outer) = λ s value.
    arguments levels rest (reverse before ++ value ∷ []) s (λ t values.
    on_meaning (function.call g values) t (λ v. operand_on levels outer t v))
operand_on levels (Test one other ∷ outer) = λ s value.
    on_truth (truth_of value) s (λ holds.
    if holds then evaluated levels one s (operand_on levels outer)
    else evaluated levels other s (operand_on levels outer))
operand_on levels (Chosen ∷ outer) = operand_on levels outer
operand_on levels (Condition body more otherwise ∷ outer) = λ s value.
    on_truth (truth_of value) s (λ holds. chosen levels body more otherwise s holds)
operand_on levels (Turning loop ∷ outer) = λ s value.
    on_truth (truth_of value) s (λ holds. turned loop levels s holds)
operand_on levels (Resulting ∷ outer) = λ s value. gives (result value) s

-- the operands that wait, on top of these
abbrev pub waiting : List Outer → List (List ℕ) → List (List ℕ)
waiting [] below = below
waiting (Prefixed operator ∷ outer) below = waiting outer below
waiting (Row links ∷ outer) below = waiting outer below
waiting (Right operator left links ∷ outer) below = left ∷ waiting outer below
waiting (Holds links ∷ outer) below = waiting outer below
waiting (Argument g before rest ∷ outer) below = before ++ waiting outer below
waiting (Test one other ∷ outer) below = waiting outer below
waiting (Chosen ∷ outer) below = waiting outer below
waiting (Condition body more otherwise ∷ outer) below = below
waiting (Turning loop ∷ outer) below = below
waiting (Resulting ∷ outer) below = below
