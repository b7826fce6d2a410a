-- The code of an argument in braces, with the name of its command before it.
use Rattle.std.proofs.Common.{◌≡◌, ℕ, true, false, List, [], ◌∷◌, ◌++◌, length, subst}
use Rattle.code.specs.Argument.{IsArgued}
use Rattle.code.specs.Blocks.{ArgumentBlock, ItsBlock}
use Rattle.code.specs.Code.{WordsAt, argued}
use Rattle.code.specs.declared.argument.Argued.{Argued}
use Rattle.code.specs.declared.instruction.Instruction.{Instruction}
use Rattle.code.specs.declared.instruction.Instruction.TheVariants as i
use Rattle.code.proofs.Built.{extended, kept_on, longer, onward, stands}
use Rattle.tclparse.specs.View.{words_of}

module _ {A : Type 0} where
  -- the name of the command, and the words of its argument
  pub argued_block : (old named new : List (Instruction A)) (own : Argued A) (name text : List ℕ) →
      IsArgued own text → name ≡ own.name → named ≡ old ++ i.Text name ∷ [] →
      ArgumentBlock named new (words_of own.words) →
      ItsBlock own.name old new (text ∷ [])
  argued_block old named new own name text is same put block =
      let first : Instruction A = i.Text own.name in
      let put_it : named ≡ old ++ first ∷ [] =
      subst (λ n. named ≡ old ++ i.Text n ∷ []) same put in
      let on = extended old named first put_it in record {
        extends = onward on block.extends;
        lies = λ later kept.
            argued is.0 is.1 is.2
            (stands old named later first tt put_it (kept_on block.extends kept))
            (subst (λ n. WordsAt later true false 1 n (words_of own.words) (length new))
            (longer old named first put_it) (block.lies later kept));
      }
