-- The word of a command whose value is put on top before the command begins.
use Rattle.std.proofs.Common.{◌≡◌, ◌∙◌, ℕ, Bool, false, List, [], ◌∷◌, length, get_or, sym, ap}
use Rattle.tclparse.proofs.Trees.{view_Word}
use Rattle.tclparse.specs.Tree.{Parts, Words, bytes_then, no_parts, no_words, word, texts_then}
use Rattle.tclparse.specs.View.{parts_of, words_then}
use Rattle.tclparse.specs.declared.tree.Word.{Word}

-- words that are the same have the same parts, and the same words after them
same_parts : (e f : Bool) (ps qs : Parts) (vs ws : Words) → word e ps vs ≡ word f qs ws → ps ≡ qs
same_parts e f ps qs vs ws is = cc

same_rest : (e f : Bool) (ps qs : Parts) (vs ws : Words) → word e ps vs ≡ word f qs ws → vs ≡ ws
same_rest e f ps qs vs ws is = cc

some_word : (e : Bool) (ps : Parts) (ws : Words) → no_words ≡ word e ps ws → ⊥
some_word e ps ws is = cc

module _ {A : Type 0} where
  -- the word after these texts
  pub word_after : (before : List (List ℕ)) (ws : List (Word A)) (ps : Parts) (rest : Words) →
      words_then ws no_words ≡ texts_then before (word false ps rest) →
      (w : Word A) → w ≡ get_or ws (length before) w → parts_of w.parts ≡ ps
  word_after [] [] ps rest is w at = absurd (some_word false ps rest is)
  word_after (b ∷ before) [] ps rest is w at =
      absurd (some_word false (bytes_then b no_parts) (texts_then before (word false ps rest)) is)
  word_after [] (x ∷ ws) ps rest is w at =
      ap (λ v. parts_of v.parts) at
      ∙ same_parts x.expands false (parts_of x.parts) ps (words_then ws no_words) rest
      (sym (view_Word x (words_then ws no_words)) ∙ is)
  word_after (b ∷ before) (x ∷ ws) ps rest is w at =
      word_after before ws ps rest
      (same_rest x.expands false (parts_of x.parts) (bytes_then b no_parts)
      (words_then ws no_words) (texts_then before (word false ps rest))
      (sym (view_Word x (words_then ws no_words)) ∙ is))
      w at
