-- The least or greatest of the numbers that texts are, read from left to right.
use Rattle.std.proofs.Common.{◌≡◌, ℕ, suc, ◌+◌, ◌<◌, List, [], ◌∷◌, length, get_or, drop, Some, ℤ, Result, Err, sym, ap, subst, ◌∙◌, add-one}
use Rattle.std.proofs.Math.Seq.{drop-cons}
use Rattle.std.specs.List.{fold}
use Rattle.meanings.specs.Meaning.{Meaning}
use Rattle.meanings.specs.View.{Answers}
use Rattle.acts.specs.declared.raise.Raise.{Raise}
use Rattle.operators.specs.declared.functions.Extreme.{Extreme}
use Rattle.operators.specs.Function.{among, chosen}
use Rattle.operators.specs.Number.{number_of, follows, with_number, with_all, told}
use Rattle.operators.specs.View.{IsNoNumber}

module _ (first : List ℕ) (texts : List (List ℕ)) (which : Extreme) (i : ℕ) (best : ℤ) where
  -- what the texts from the place i on give, with the best number so far
  abbrev Left : Type 0
  Left = with_all (first ∷ texts) (among which)
      ≡ with_all (drop i texts) (λ numbers. told (fold (chosen which) best numbers))

  module _ (left : Left) where
    module _ (x : List ℕ) (below : i < length texts) (is : x ≡ get_or texts i x) where
      -- what the texts after the next one give, once the number of the next one is known
      abbrev next : ℤ → Meaning
      next n = with_all (drop (i + 1) texts)
          (λ numbers. told (fold (chosen which) best (n ∷ numbers)))

      at : with_all (first ∷ texts) (among which) ≡ with_number x next
      at =
          left
          ∙ ap (λ ts. with_all ts (λ numbers. told (fold (chosen which) best numbers)))
          (drop-cons texts i x below ∙ ap (λ y. y ∷ drop (suc i) texts) (sym is)
          ∙ ap (λ n. x ∷ drop n texts) (sym (add-one i)))

      -- the next text is not a number
      pub stops : {A : Type 0} (fault : Raise A) → IsNoNumber x fault →
          Answers (with_all (first ∷ texts) (among which)) (Err fault)
      stops fault none =
          subst (λ (m : Meaning). Answers m (Err fault)) (sym at) (none next)

      -- the next text is a number
      pub goes_on : (n : ℤ) → number_of x ≡ Some n →
          with_all (first ∷ texts) (among which)
          ≡ with_all (drop (i + 1) texts)
          (λ numbers. told (fold (chosen which) (chosen which best n) numbers))
      goes_on n number = at ∙ ap (λ o. follows o x next) number

    -- no text is left unread
    pub ends : {A : Type 0} (r : Result (List ℕ) (Raise A)) → drop i texts ≡ [] →
        Answers (told best) r → Answers (with_all (first ∷ texts) (among which)) r
    ends r none says =
        subst (λ (m : Meaning). Answers m r)
        (sym
        (left ∙ ap (λ ts. with_all ts (λ numbers. told (fold (chosen which) best numbers))) none))
        says
