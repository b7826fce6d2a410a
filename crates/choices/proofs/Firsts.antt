-- The first of the pairs that has a property, and the pairs after those that do not have it.
use Rattle.std.proofs.Common.{List, ◌∷◌, refl}
use mathlib.Core.Logic.{inl, inr}
use Rattle.choices.specs.Branches.{Pair}
use Rattle.choices.specs.Choice.{IsFirst, IsNone}

-- the first of the remaining pairs that has the property is the first of all pairs, and none of all
-- has it where none of the remaining ones does
pub record Leads (Has : Pair → Type 0) (rest pairs : List Pair) : Type 0 where
  pub first : (p : Pair) → IsFirst Has rest p → IsFirst Has pairs p
  pub none : IsNone Has rest → IsNone Has pairs

pub leads_all : (Has : Pair → Type 0) (pairs : List Pair) → Leads Has pairs pairs
leads_all Has pairs = record { first = λ p is. is; none = λ is. is }

-- one pair further, where the pair in front does not have the property
pub leads_on : (Has : Pair → Type 0) (q : Pair) (rest pairs : List Pair) → ¬ Has q →
    Leads Has (q ∷ rest) pairs → Leads Has rest pairs
leads_on Has q rest pairs not leads = record {
  first = λ p is. leads.first p (inr (not, is));
  none = λ is. leads.none (not, is);
}

-- the pair in front is the first, where it has the property
pub first_here : (Has : Pair → Type 0) (q : Pair) (rest pairs : List Pair) → Has q →
    Leads Has (q ∷ rest) pairs → IsFirst Has pairs q
first_here Has q rest pairs has leads = leads.first q (inl (refl, has))
