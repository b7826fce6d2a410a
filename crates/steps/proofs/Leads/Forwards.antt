-- The code of what is left of a word, of a formula and of a turn leads forwards.
use Rattle.std.proofs.Common.{ℕ, ◌+◌, ◌≤◌, List, [], ◌∷◌, Option, Some, None, arith}
use Rattle.code.specs.Code.{ScriptAt}
use Rattle.code.specs.declared.instruction.Instruction.{Instruction}
use Rattle.state.specs.Prelude.{LoopTree, ScriptTree}
use Rattle.steps.specs.Layout.{AroundAt, EntersAt, EvaluatesAt, body_code, body_text, formula_code, formula_text, JoinedAt, LoopAt, OperandAt, OuterAt, PartAt, StepsAt, WordAt}
use Rattle.steps.specs.Operand.{Outer, Prefixed, Row, Right, Holds, Argument, Test, Chosen, Condition, Turning, Resulting}
use Rattle.steps.specs.Word.{Around, Open, Word, Plain, Expands, Operand, Listed, Switched, Last}
use Rattle.steps.proofs.Leads.Grows.{arguments_grow, body_grows, commands_grow, fault_grows, foreach_grows, formula_grows, joins_grow, links_grow, parts_grow, switch_grows, words_grow}
use Rattle.tclparse.specs.Fault.{Fault}
use Rattle.tclparse.specs.Formula.{Formula}
use Rattle.tclparse.specs.Tree.{Commands}

module _ {A : Type 0} (code : List (Instruction A)) where
  -- a script
  pub script_grows : (place : ℕ) (cs : Commands) (f : Option Fault) (end : ℕ) →
      ScriptAt code place cs f end → place ≤ end
  script_grows place cs f end at =
      omega (arith, commands_grow code at.commands, fault_grows code at.ends)

  -- a body
  pub enters_grow : (place : ℕ) (tree : ScriptTree) (end : ℕ) → EntersAt code place tree end →
      place + 1 ≤ end
  enters_grow place tree end (body_code at) =
      omega (arith, script_grows (place + 1) tree.commands tree.fault at.stop at.script, at.ends)
  enters_grow place tree end (body_text at is) = omega arith

  -- a formula, or its text
  evaluates_grow : (place : ℕ) (f : Formula) (end : ℕ) → EvaluatesAt code place f end → place ≤ end
  evaluates_grow place f end (formula_code at) = formula_grows code at
  evaluates_grow place f end (formula_text at is) = omega arith

  -- what is evaluated after an operand
  pub operand_grows : (place : ℕ) (outer : List Outer) (end : ℕ) → OperandAt code place outer end →
      place ≤ end
  operand_grows place [] end at = omega (arith, at)
  operand_grows place (Prefixed operator ∷ outer) end at =
      omega (arith, operand_grows (place + 1) outer end at.1)
  operand_grows place (Row links ∷ outer) end at =
      omega (arith, links_grow code at.1, operand_grows at.0 outer end at.2)
  operand_grows place (Right operator left links ∷ outer) end at =
      omega (arith, links_grow code at.1.1, operand_grows at.1.0 outer end at.1.2)
  operand_grows place (Holds links ∷ outer) end at =
      omega (arith, links_grow code at.1.1, operand_grows at.1.0 outer end at.1.2)
  operand_grows place (Argument g before rest ∷ outer) end at =
      omega (arith, arguments_grow code at.2, operand_grows (at.1 + 1) outer end at.4)
  operand_grows place (Test this other ∷ outer) end at =
      omega (
        arith,
        formula_grows code at.3,
        formula_grows code at.5,
        operand_grows at.1 outer end at.6,
      )
  operand_grows place (Chosen ∷ outer) end at =
      omega (arith, at.2, operand_grows at.0 outer end at.3)
  operand_grows place (Condition body more otherwise ∷ outer) end at =
      omega (arith, body_grows code at.2, at.4)
  operand_grows place (Turning loop ∷ outer) end at = omega (arith, at.1)
  operand_grows place (Resulting ∷ outer) end at = omega (arith, at.1)

  around_grow : (place : ℕ) (os : List Around) (end : ℕ) → AroundAt code place os end → place ≤ end
  around_grow place [] end at = omega (arith, at)
  around_grow place (o ∷ os) end at =
      omega (
        arith,
        joins_grow code at.1.2,
        parts_grow code at.1.3,
        around_grow at.1.1 os end at.1.4,
      )

  word_grows : (place : ℕ) (word : Word) (end : ℕ) → WordAt code place word end → place ≤ end
  word_grows place (Plain braced counted before rest) end at = words_grow code at.2
  word_grows place (Expands braced before rest) end at = omega (arith, words_grow code at.1.1)
  word_grows place (Operand outer) end at = operand_grows place outer end at
  word_grows place (Listed variables body) end at = foreach_grows code at
  word_grows place (Switched options after) end at = switch_grows code at
  word_grows place (Last before) end at = omega (arith, at.3)

  -- what is around the parts of a word
  pub outer_grows : (place : ℕ) (outer : List Around) (word : Word) (end : ℕ) →
      OuterAt code place outer word end → place ≤ end
  outer_grows place outer word end at =
      omega (
        arith,
        around_grow place outer at.stop at.around,
        word_grows at.stop word end at.word_at,
      )

  -- an open word, with a value that is put after its bytes
  pub joined_grows : (place : ℕ) (o : Open) (end : ℕ) → JoinedAt code place o end → place ≤ end
  joined_grows place o end at =
      omega (
        arith,
        joins_grow code at.joins,
        parts_grow code at.parts_at,
        outer_grows at.stop o.outer o.word end at.outer_at,
      )

  steps_grow : (place : ℕ) (step : Option ScriptTree) (end : ℕ) → StepsAt code place step end →
      place ≤ end
  steps_grow place None end at = omega (arith, at.1)
  steps_grow place (Some step) end at =
      omega (arith, enters_grow (place + 1) step at.0 at.2, at.4)

  -- a part of a turn
  pub part_grows : (place : ℕ) (loop : LoopTree) (turn : ℕ) (at : LoopAt code loop turn)
      (ends : Option ℕ) → PartAt code place loop turn at ends → place ≤ turn
  part_grows place loop turn at (Some end) part =
      omega (
        arith,
        part.1,
        steps_grow at.ends loop.step at.test at.steps,
        evaluates_grow at.test loop.test turn at.formula,
      )
  part_grows place loop turn at None part =
      omega (arith, part.1, evaluates_grow at.test loop.test turn at.formula)
