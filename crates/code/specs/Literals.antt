-- Words that are texts as they stand.
use Rattle.std.specs.Prelude.{◌≡◌, ℕ, false, List}
use Rattle.tclparse.specs.Tree.{Words, bytes_then, no_parts, no_words, literals}
use Rattle.tclparse.specs.Tree as tree
use Rattle.tclparse.specs.View.{word_view, words_then}
use Rattle.tclparse.specs.declared.tree.Word.{Word}

-- the word is this text as it stands
abbrev pub IsLiteral : {A : Type 0} → Word A → List ℕ → Type 0
IsLiteral word text =
    (t : Words) → word_view word t ≡ tree.word false (bytes_then text no_parts) t

-- the words are these texts as they stand
abbrev pub Are : {A : Type 0} → List (Word A) → List (List ℕ) → Type 0
Are words texts = words_then words no_words ≡ literals texts
