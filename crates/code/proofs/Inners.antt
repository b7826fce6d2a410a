-- The code of the scripts and of the expressions in the words of commands.
use Rattle.std.proofs.Common.{◌≡◌, ℕ, List, [], ◌∷◌, ◌++◌, Option, Ok, length, sym, subst}
use Rattle.code.specs.Blocks.{BodyBlock, ExpressionBlock, FormulaBlock, ScriptBlock}
use Rattle.code.specs.Code.{BodyAt, CommandsAt, ExpressionAt, by_formula, by_text, deeper, from_text}
use Rattle.code.specs.declared.instruction.Instruction.{Instruction}
use Rattle.code.specs.declared.instruction.Instruction.TheVariants as i
use Rattle.code.proofs.Built.{extended, kept_on, longer, onward, stands}
use Rattle.tclparse.specs.Fault.{Fault}
use Rattle.tclparse.specs.Formula.{Formula}
use Rattle.tclparse.specs.FormulaGrammar.{IsFormula}
use Rattle.tclparse.specs.Grammar.{IsScript}
use Rattle.tclparse.specs.Tree.{Commands}

module _ {A : Type 0} where
  -- a body, between the instructions that enter and leave it
  pub body_block : (old entered between new : List (Instruction A)) (cs : Commands)
      (f : Option Fault) (text : List ℕ) (after : ℕ) → IsScript cs f text →
      entered ≡ old ++ i.Body after ∷ [] →
      ScriptBlock entered between cs f → new ≡ between ++ i.Leave ∷ [] → BodyBlock old new text
  body_block old entered between new cs f text after is enters inside put =
      let enter : Instruction A = i.Body after in
      let entering = extended old entered enter enters in
      let leaving = extended between new i.Leave put in record {
        extends = onward entering (onward inside.extends leaving);
        lies = λ later kept.
            let on = kept_on leaving kept in
            let script = inside.lies later on in
            subst (λ n. BodyAt later (length old) text n) (sym (longer between new i.Leave put))
            (deeper is (stands old entered later enter tt enters (kept_on inside.extends on))
            (subst (λ n. CommandsAt later n cs script.mid) (longer old entered enter enters)
            script.commands)
            script.ends (stands between new later i.Leave tt put kept));
      }

  -- a script that is left as text
  pub left_block : (old new : List (Instruction A)) (text : List ℕ) (after : ℕ) →
      new ≡ old ++ i.Run text after ∷ [] → BodyBlock old new text
  left_block old new text after put =
      let it : Instruction A = i.Run text after in record {
        extends = extended old new it put;
        lies = λ later kept. subst (λ n. BodyAt later (length old) text n)
            (sym (longer old new it put)) (by_text (stands old new later it tt put kept));
      }

  -- an expression, by its formula, or left as text
  pub formula_block : (old new : List (Instruction A)) (f : Formula) (text : List ℕ) →
      IsFormula (Ok f) text → FormulaBlock old new f → ExpressionBlock old new text
  formula_block old new f text is block = record {
    extends = block.extends;
    lies = λ later kept. by_formula is (block.lies later kept);
  }

  pub left_expression : (old new : List (Instruction A)) (text : List ℕ) →
      new ≡ old ++ i.Evaluate text ∷ [] → ExpressionBlock old new text
  left_expression old new text put =
      let it : Instruction A = i.Evaluate text in record {
        extends = extended old new it put;
        lies = λ later kept. subst (λ n. ExpressionAt later (length old) text n)
            (sym (longer old new it put)) (from_text (stands old new later it tt put kept));
      }
