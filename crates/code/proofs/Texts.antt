-- Words that are texts as they stand, read from left to right.
use Rattle.std.proofs.Common.{◌≡◌, ◌∙◌, ℕ, ◌+◌, ◌<◌, false, true, List, [], ◌∷◌, ◌++◌, length, drop, get_or, append_assoc, refl, sym, ap, subst}
use Rattle.std.proofs.lemmas.List.{append-nil}
use Rattle.std.proofs.lemmas.Slice.Eq.{bytes_eq-Decides}
use Rattle.std.specs.Str.{bytes_eq}
use Rattle.code.specs.Literals.{Are, IsLiteral}
use Rattle.code.proofs.Places.{word_at}
use Rattle.tclparse.specs.Tree.{Words, bytes_then, no_parts, no_words, word, texts_then}
use Rattle.tclparse.specs.View.{words_then}
use Rattle.tclparse.specs.declared.tree.Word.{Word}

-- texts before texts, and other words
pub texts_append : (some more : List (List ℕ)) (ws : Words) →
    texts_then (some ++ more) ws ≡ texts_then some (texts_then more ws)
texts_append [] more ws = refl
texts_append (text ∷ some) more ws =
    ap (λ rest. word false (bytes_then text no_parts) rest) (texts_append some more ws)

module _ {A : Type 0} where
  -- the first word is this text
  pub first_text : (ws rest : List (Word A)) (text name : List ℕ) → bytes_eq text name ≡ true →
      ((vs : Words) → words_then rest no_words ≡ vs →
      words_then ws no_words ≡ word false (bytes_then text no_parts) vs) →
      words_then ws no_words ≡ word false (bytes_then name no_parts) (words_then rest no_words)
  first_text ws rest text name same first =
      subst (λ n. words_then ws no_words ≡ word false (bytes_then n no_parts)
      (words_then rest no_words))
      ((bytes_eq-Decides text name).0 same) (first (words_then rest no_words) refl)

  -- the words that are left: where they are texts, all words are, the texts so far before them
  abbrev pub TextsLeft : List (Word A) → List (Word A) → List (List ℕ) → Type 0
  TextsLeft whole rest texts =
      (others : List (List ℕ)) → Are rest others → Are whole (texts ++ others)

  -- after one more text
  pub one_text : (ws : List (Word A)) (k : ℕ) (w : Word A) (texts now : List (List ℕ))
      (text : List ℕ) → k < length ws → w ≡ get_or ws k w → IsLiteral w text →
      now ≡ texts ++ text ∷ [] → TextsLeft ws (drop k ws) texts → TextsLeft ws (drop (k + 1) ws) now
  one_text ws k w texts now text below at is put left = λ others are.
      subst (λ ts. Are ws ts)
      (sym (ap (λ ts. ts ++ others) put ∙ append_assoc texts (text ∷ []) others))
      (left (text ∷ others)
      (word_at ws k w below at ∙ is (words_then (drop (k + 1) ws) no_words)
      ∙ ap (λ t. word false (bytes_then text no_parts) t) are))

  -- no word is left
  pub all_texts : (ws rest : List (Word A)) (texts : List (List ℕ)) → rest ≡ [] →
      TextsLeft ws rest texts → Are ws texts
  all_texts ws rest texts none left =
      subst (λ ts. Are ws ts) (append-nil texts)
      (left [] (ap (λ vs. words_then vs no_words) none))
