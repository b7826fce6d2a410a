-- The code of a command that is one instruction, after the value of its last word.
use Rattle.std.proofs.Common.{◌≡◌, ◌∙◌, ℕ, ◌≤◌, ◌<◌, true, false, List, [], ◌∷◌, ◌++◌, length, get_or, sym, ap, subst, arith}
use Rattle.code.specs.Blocks.{IsReal, OwnBlock, PartsBlock}
use Rattle.code.specs.Code.{CommandAt, IsDirect, adds_last, appends_last, direct, increments_last, returns_last, sets_last}
use Rattle.code.specs.Literals.{IsLiteral}
use Rattle.code.specs.declared.instruction.Instruction.{Instruction}
use Rattle.code.proofs.Built.{extended, kept_on, longer, onward, stands}
use Rattle.tclparse.proofs.Trees.{view_Word}
use Rattle.tclparse.specs.Tree.{Parts, bytes_then, no_parts, no_words, word, texts_then}
use Rattle.tclparse.specs.View.{parts_of, word_view, words_then}
use Rattle.tclparse.specs.declared.tree.Word.{Word}

module _ {A : Type 0} where
  -- such an instruction stands for good
  direct_is_real : (it : Instruction A) (before : List (List ℕ)) → IsDirect it before → IsReal it
  direct_is_real it before sets_last = tt
  direct_is_real it before appends_last = tt
  direct_is_real it before adds_last = tt
  direct_is_real it before increments_last = tt
  direct_is_real it before returns_last = tt

  -- the instruction after the value of the last word
  pub direct_block : (old valued new : List (Instruction A)) (it : Instruction A)
      (before : List (List ℕ)) (last : Parts) → IsDirect it before → PartsBlock old valued last →
      new ≡ valued ++ it ∷ [] →
      OwnBlock true old new (texts_then before (word false last no_words))
  direct_block old valued new it before last is block put = record {
    extends = onward block.extends (extended valued new it put);
    lies = λ later kept.
        subst (λ n. CommandAt later (length old) (texts_then before (word false last no_words)) n)
        (sym (longer valued new it put))
        (direct is (block.lies later (kept_on (extended valued new it put) kept))
        (stands valued new later it (direct_is_real it before is) put kept));
  }

  -- a literal before others
  literal_before : (x w : Word A) (text : List ℕ) → w ≡ x → IsLiteral w text → IsLiteral x text
  literal_before x w text same is = subst (λ v. IsLiteral v text) same is

  -- the last word, which is no list of words
  last_is : (x w : Word A) → w ≡ x → w.expands ≡ false →
      word_view x no_words ≡ word false (parts_of w.parts) no_words
  last_is x w same plain =
      ap (λ v. word_view v no_words) (sym same) ∙ view_Word w no_words
      ∙ ap (λ e. word e (parts_of w.parts) no_words) plain

  -- a literal, and a last word
  pub two_words : (ws : List (Word A)) (v w : Word A) (a : List ℕ) → 2 ≤ length ws →
      length ws < 3 → v ≡ get_or ws 0 v → w ≡ get_or ws 1 w → IsLiteral v a →
      w.expands ≡ false →
      words_then ws no_words ≡ texts_then (a ∷ []) (word false (parts_of w.parts) no_words)
  two_words [] v w a two three first second is plain = absurd (omega arith)
  two_words (x ∷ []) v w a two three first second is plain = absurd (omega arith)
  two_words (x ∷ y ∷ []) v w a two three first second is plain =
      literal_before x v a first is (word_view y no_words)
      ∙ ap (λ t. word false (bytes_then a no_parts) t) (last_is y w second plain)
  two_words (x ∷ y ∷ z ∷ ws) v w a two three first second is plain = absurd (omega arith)

  -- two literals, and a last word
  pub three_words : (ws : List (Word A)) (u v w : Word A) (a b : List ℕ) → 3 ≤ length ws →
      length ws < 4 → u ≡ get_or ws 0 u → v ≡ get_or ws 1 v → w ≡ get_or ws 2 w →
      IsLiteral u a → IsLiteral v b → w.expands ≡ false →
      words_then ws no_words ≡ texts_then (a ∷ b ∷ []) (word false (parts_of w.parts) no_words)
  three_words [] u v w a b three four first second third is other plain = absurd (omega arith)
  three_words (x ∷ ws) u v w a b three four first second third is other plain =
      literal_before x u a first is (words_then ws no_words)
      ∙ ap (λ t. word false (bytes_then a no_parts) t)
      (two_words ws v w b (omega arith) (omega arith) second third other plain)
