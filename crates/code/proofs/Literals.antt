-- Words that are texts as they stand.
use Rattle.std.proofs.Common.{◌≡◌, ◌∙◌, ℕ, ◌-◌, ◌≤◌, false, List, [], ◌∷◌, length, drop, take, get_or, Option, Some, None, IfSome, refl, sym, ap, arith}
use Rattle.std.specs.Borrow.{Bor}
use Rattle.code.specs.Literals.{Are, IsLiteral}
use Rattle.code.proofs.Fronts.{behind_one}
use Rattle.tclparse.proofs.Trees.{view_Word}
use Rattle.tclparse.specs.Tree.{Words, bytes_then, no_parts, no_words, word}
use Rattle.tclparse.specs.View.{parts_of, parts_then, word_view, words_then}
use Rattle.tclparse.specs.declared.tree.Part.{Part}
use Rattle.tclparse.specs.declared.tree.Word.{Word}

module _ {A : Type 0} where
  -- a word whose parts are a text
  pub literal_word : (w : Word A) (text : Option (Bor (List ℕ))) → w.expands ≡ false →
      IfSome text (λ t. parts_of w.parts ≡ bytes_then t.now no_parts) →
      IfSome text (λ t. IsLiteral w t.now)
  literal_word w None plain is = is
  literal_word w (Some t) plain is = λ u.
      view_Word w u ∙ ap (λ e. word e (parts_of w.parts) u) plain
      ∙ ap (λ ps. word false ps u) is

  -- a word that is a literal, before any other words
  pub first_word : (ws : List (Word A)) (w : Word A) (a : List ℕ) (rest : Words) →
      1 ≤ length ws → w ≡ get_or ws 0 w → IsLiteral w a →
      words_then (take (length ws - 1) (drop 1 ws)) no_words ≡ rest →
      words_then ws no_words ≡ word false (bytes_then a no_parts) rest
  first_word [] w a rest one first is last = absurd (omega arith)
  first_word (x ∷ ws) w a rest one first is last =
      ap (λ v. word_view v (words_then ws no_words)) (sym first) ∙ is (words_then ws no_words)
      ∙ ap (λ t. word false (bytes_then a no_parts) t)
      (ap (λ vs. words_then vs no_words) (sym (behind_one x ws)) ∙ last)

  -- a word that is no list of words, before any other words
  pub plain_word : (ws : List (Word A)) (w : Word A) (ps : List (Part A)) (rest : Words) →
      1 ≤ length ws → w ≡ get_or ws 0 w → w.expands ≡ false → ps ≡ w.parts.value.items →
      words_then (take (length ws - 1) (drop 1 ws)) no_words ≡ rest →
      words_then ws no_words ≡ word false (parts_then ps no_parts) rest
  plain_word [] w ps rest one first plain is last = absurd (omega arith)
  plain_word (x ∷ ws) w ps rest one first plain is last =
      let more = words_then ws no_words in
      ap (λ v. word_view v more) (sym first) ∙ view_Word w more
      ∙ ap (λ e. word e (parts_of w.parts) more) plain
      ∙ ap (λ qs. word false (parts_then qs no_parts) more) (sym is)
      ∙ ap (λ t. word false (parts_then ps no_parts) t)
      (ap (λ vs. words_then vs no_words) (sym (behind_one x ws)) ∙ last)

  -- no words
  pub no_literals : (ws : List (Word A)) → length ws ≡ 0 → Are ws []
  no_literals [] none = refl
  no_literals (x ∷ ws) none = absurd (omega arith)
