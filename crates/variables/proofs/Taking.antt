-- Which texts a pattern takes, where some of them have been held against it.
use Rattle.std.proofs.Common.{◌≡◌, ◌∙◌, ℕ, List, [], ◌∷◌, ◌++◌, true, false, if◌then◌else◌, Option, Some, Result, refl, sym, ap, subst, append_assoc}
use Rattle.std.proofs.lemmas.List.{append-nil}
use Rattle.std.specs.Prelude.{◌↔◌, Bool, IsTrue}
use Rattle.std.specs.declared.vec.Vec.{Vec}
use Rattle.state.specs.Prelude.{Raise, Scopes}
use Rattle.kinds.proofs.Readings.{then_comes}
use Rattle.kinds.specs.Readings.{ComesTo, Finds, Found, Reading}
use Rattle.patterns.specs.Item.{Item}
use Rattle.patterns.specs.Match.{Whole}
use Rattle.variables.specs.Array.Indexes.{indexes, indexes_of, matched, taken}

-- the texts that were found so far come before those that are found among the rest
pub record TakenSoFar (pattern : List Item) (texts rest found : List (List ℕ)) : Type 0 where
  pub comes : (more : List (List ℕ)) → ComesTo (taken pattern rest) more →
      ComesTo (taken pattern texts) (found ++ more)

module _ (pattern : List Item) (texts : List (List ℕ)) where
  -- at first none are found
  pub none_taken : (found : List (List ℕ)) → found ≡ [] → TakenSoFar pattern texts texts found
  none_taken found none = record {
    comes = λ more comes.
        subst (λ l. ComesTo (taken pattern texts) (l ++ more)) (sym none) comes;
  }

  module _ (rest more found : List (List ℕ)) (t : List ℕ) (is : rest ≡ t ∷ more)
      (so_far : TakenSoFar pattern texts rest found) where
    -- the next one is held against the pattern
    tried : (takes : Bool) → IsTrue takes ↔ Whole pattern t → (others : List (List ℕ)) →
        ComesTo (taken pattern more) others →
        ComesTo (taken pattern texts) (found ++ (if takes then t ∷ others else others))
    tried takes is_taken others comes =
        let next : List (List ℕ) → Reading (List (List ℕ)) =
        λ rest. Found (if takes then t ∷ rest else rest) in
        let all = if takes then t ∷ others else others in
        let one : ComesTo (taken pattern (t ∷ more)) all =
        (takes, is_taken, then_comes (taken pattern more) next others all comes refl) in
        so_far.comes all (subst (λ ts. ComesTo (taken pattern ts) all) (sym is) one)

    -- the pattern takes the next text
    pub one_taken : (now : List (List ℕ)) → IsTrue true ↔ Whole pattern t →
        now ≡ found ++ t ∷ [] → TakenSoFar pattern texts more now
    one_taken now takes pushed = record {
      comes = λ others comes.
          subst (ComesTo (taken pattern texts)) (joined others) (tried true takes others comes);
    }
      where
        joined : (others : List (List ℕ)) → found ++ t ∷ others ≡ now ++ others
        joined others =
            sym (ap (λ l. l ++ others) pushed ∙ append_assoc found (t ∷ []) others)

    -- the pattern does not take the next text
    pub one_passed : IsTrue false ↔ Whole pattern t → TakenSoFar pattern texts more found
    one_passed passes = record { comes = λ others comes. tried false passes others comes }

  -- where no text is left, those that were found are all
  pub all_taken : (rest found : List (List ℕ)) → rest ≡ [] → TakenSoFar pattern texts rest found →
      ComesTo (taken pattern texts) found
  all_taken rest found none so_far =
      subst (ComesTo (taken pattern texts)) (append-nil found)
      (so_far.comes [] (subst (λ ts. ComesTo (taken pattern ts) []) (sym none) refl))

-- the indexes of an array that a pattern takes, where all of them are at hand
pub matched_indexes : {A : Type 0} (r : Result (Vec (List ℕ) A) (Raise A)) (name : List ℕ)
    (index : Option (List ℕ)) (word : List ℕ) (texts : List (List ℕ)) (pattern : Option (List ℕ))
    (v : Scopes) → texts ≡ indexes_of v name index → pattern ≡ Some word →
    Finds (λ found. found.items) (matched word texts) r →
    Finds (λ found. found.items) (indexes name index pattern v) r
matched_indexes r name index word texts pattern v all is finds =
    subst (λ p. Finds (λ found. found.items) (indexes name index p v) r) (sym is)
    (subst (λ ts. Finds (λ found. found.items) (matched word ts) r) all finds)
