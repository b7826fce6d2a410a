-- The pairs whose ids are not among named ones, one by one.
use Rattle.std.proofs.Common.{◌≡◌, Bool, true, false, cond, not, List, [], ◌∷◌, ◌++◌, refl, sym, ap, ◌∙◌, append_assoc}
use Rattle.acts.specs.declared.id.Id.{Id}
use Rattle.choices.specs.Branches.{Pair}
use Rattle.dialog.specs.Standing.{is_among, others}

-- a pair whose id is named is left out, and a pair of another id is kept
pub other_none : (named : List Id) (p : Pair) → is_among named p.id ≡ true →
    others named (p ∷ []) ≡ []
other_none named p is = ap (λ b. cond (not b) (p ∷ []) []) is

pub other_one : (named : List Id) (p : Pair) → is_among named p.id ≡ false →
    others named (p ∷ []) ≡ p ∷ []
other_one named p is = ap (λ b. cond (not b) (p ∷ []) []) is

-- one pair before others
before : (named : List Id) (p : Pair) (ps : List Pair) →
    others named (p ∷ ps) ≡ others named (p ∷ []) ++ others named ps
before named p ps = by (is_among named p.id)
  where
    by : (b : Bool) → cond (not b) (p ∷ others named ps) (others named ps)
        ≡ cond (not b) (p ∷ []) [] ++ others named ps
    by true = refl
    by false = refl

-- one pair further
pub others_further : (named : List Id) (old new all : List Pair) (p : Pair) (ps : List Pair) →
    new ≡ old ++ others named (p ∷ []) → old ++ others named (p ∷ ps) ≡ all →
    new ++ others named ps ≡ all
others_further named old new all p ps more so_far =
    ap (λ qs. qs ++ others named ps) more
    ∙ append_assoc old (others named (p ∷ [])) (others named ps)
    ∙ ap (λ qs. old ++ qs) (sym (before named p ps))
    ∙ so_far
