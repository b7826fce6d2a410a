-- The words that concat keeps, one by one.
use Rattle.std.proofs.Common.{◌≡◌, ℕ, ◌+◌, ◌<◌, ◌==◌, Bool, false, cond, not, List, [], ◌∷◌, ◌++◌, length, get_or, drop, suc, if◌then◌else◌, refl, sym, ap, ◌∙◌, append_assoc, add-one}
use Rattle.std.proofs.Math.Seq.{drop-cons}
use Rattle.pure.specs.Concat.{kept}
use Rattle.tcltext.specs.Joined.{separated}
use Rattle.pure.specs.Trim.{trim, white}
use Rattle.tcltext.specs.Canonical.{is_empty}

-- the word at a place, and those after it
word_at : (words : List (List ℕ)) (i : ℕ) (x : List ℕ) → i < length words →
    x ≡ get_or words i x → drop i words ≡ x ∷ drop (i + 1) words
word_at words i x below is =
    drop-cons words i x below ∙ ap (λ y. y ∷ drop (suc i) words) (sym is)
    ∙ ap (λ n. x ∷ drop n words) (sym (add-one i))

-- the kept words: a word, unless it is empty, and then the others
abbrev with : List ℕ → List (List ℕ) → List (List ℕ)
with t rest = cond (not (is_empty t)) (t ∷ rest) rest

some : (t : List ℕ) (rest : List (List ℕ)) → (length t == 0) ≡ false → with t rest ≡ t ∷ rest
some [] rest is = absurd (cc)
some (c ∷ t) rest is = refl

regroup : (a b c d : List ℕ) → (a ++ (b ++ c)) ++ d ≡ a ++ (b ++ (c ++ d))
regroup a b c d = simp append_assoc

module _ (words : List (List ℕ)) (i : ℕ) (x t : List ℕ) (below : i < length words)
    (is : x ≡ get_or words i x) (trimmed : t ≡ trim white x) where
  at : kept (drop i words) ≡ with t (kept (drop (i + 1) words))
  at =
      ap kept (word_at words i x below is)
      ∙ ap (λ u. with u (kept (drop (i + 1) words))) (sym trimmed)

  module _ (text all : List ℕ) (first : Bool) where
    -- a word that is not empty is kept, and stands after the text
    pub added : (new : List ℕ) → (length t == 0) ≡ false →
        text ++ separated first (32 ∷ []) (kept (drop i words)) ≡ all →
        new ≡ text ++ ((if first then [] else 32 ∷ []) ++ t) →
        new ++ separated false (32 ∷ []) (kept (drop (i + 1) words)) ≡ all
    added new full so_far is =
        let rest = kept (drop (i + 1) words) in
        ap (λ y. y ++ separated false (32 ∷ []) rest) is
        ∙ regroup text (if first then [] else 32 ∷ []) t (separated false (32 ∷ []) rest)
        ∙ ap (λ ws. text ++ separated first (32 ∷ []) ws) (sym (at ∙ some t rest full)) ∙ so_far
