-- Of pairs one is chosen, or none: there is always a choice, and never a second one.
use Rattle.std.proofs.Common.{◌≡◌, ◌⊎◌, inl, inr, ℕ, Bool, true, false, List, [], ◌∷◌, Option, Some, None, refl, sym, ap, ◌∙◌}
use Rattle.patterns.specs.Item.{Reading}
use Rattle.patterns.specs.Match.{IsFound, SitsNowhere}
use Rattle.patterns.specs.declared.search.Found.{Found}
use Rattle.patterns.proofs.Sought.{found_or_nowhere, one_place}
use Rattle.patterns.proofs.Decided.{Decided}
use Rattle.choices.specs.Branches.{Awaited, Pair, Sought, FullBuffer, Eof, Timeout, Default}
use Rattle.choices.specs.Choice.{Chosen, chosen, Chooses, IsChosen, FindsIn, Finds, IsFoundFor, IsMet, IsFirst, IsNone, looks_at, is_met}
use Rattle.choices.specs.Lines.{Line, line_of}
use Rattle.choices.specs.declared.choice.Trigger.{Trigger}

-- where a branch finds something
abbrev Place : Awaited → Option Line → Type 0
Place a o = (f : Found) × FindsIn a o f

in_window : (p : Reading) (l : Line) →
    ((s e : ℕ) × IsFound p l.held.bytes s e) ⊎ SitsNowhere p l.held.bytes →
    Decided (Place (Sought p) (Some l))
in_window p l (inl at) = inl (record { start = at.0; end = at.1 }, at.2)
in_window p l (inr none) = inr (λ f. none f.0.start f.0.end f.1.sits)

-- a branch finds something, or it does not
place_in : (a : Awaited) (o : Option Line) → Decided (Place a o)
place_in (Sought p) (Some l) = in_window p l (found_or_nowhere p l.held.bytes)
place_in (Sought p) None = inr (λ f. f.1)
place_in FullBuffer o = inr (λ f. f.1)
place_in Eof o = inr (λ f. f.1)
place_in Timeout o = inr (λ f. f.1)
place_in Default o = inr (λ f. f.1)

-- a branch finds something at one place alone
one_find : (a : Awaited) (o : Option Line) (f g : Found) → FindsIn a o f → FindsIn a o g → f ≡ g
one_find (Sought p) (Some l) f g x y =
    let same = one_place p l.held.bytes f.start f.end g.start g.end x y in
    λ k. record { start = same.0 k; end = same.1 k }
one_find (Sought p) None f g x y = absurd x
one_find FullBuffer o f g x y = absurd x
one_find Eof o f g x y = absurd x
one_find Timeout o f g x y = absurd x
one_find Default o f g x y = absurd x

-- a pair's pattern is found, or it is not
found_for : (ls : List Line) (t : Trigger) (p : Pair) → Decided (IsFoundFor ls t p)
found_for ls t p = by (looks_at t p) refl (place_in p.branch.awaited (line_of ls p.id))
  where
    by : (b : Bool) → looks_at t p ≡ b → Decided (Place p.branch.awaited (line_of ls p.id)) →
        Decided (IsFoundFor ls t p)
    by true looks (inl f) = inl (f.0, record { looks = looks; finds = f.1 })
    by true looks (inr not) = inr (λ at. not (at.0, at.1.finds))
    by false looks d = inr (λ at.
        let never : false ≡ true = sym looks ∙ at.1.looks in absurd (cc))

-- what the pair's keyword names has come, or it has not
met : (ls : List Line) (t : Trigger) (p : Pair) → Decided (IsMet ls t p)
met ls t p = by (is_met ls t p) refl
  where
    by : (b : Bool) → is_met ls t p ≡ b → Decided (IsMet ls t p)
    by true is = inl is
    by false is = inr (λ yes. let never : false ≡ true = sym is ∙ yes in absurd (cc))

-- the first of the pairs that has a property
module _ (Has : Pair → Type 0) where
  abbrev First : List Pair → Type 0
  First pairs = (p : Pair) × IsFirst Has pairs p × Has p

  first-next : (q : Pair) (qs : List Pair) → Decided (Has q) → First qs ⊎ IsNone Has qs →
      First (q ∷ qs) ⊎ IsNone Has (q ∷ qs)
  first-next q qs (inl has) rest = inl (q, inl (refl, has), has)
  first-next q qs (inr not) (inl first) = inl (first.0, inr (not, first.1), first.2)
  first-next q qs (inr not) (inr none) = inr (not, none)

  -- there is a first one, or none of the pairs has the property
  first_or_none : ((p : Pair) → Decided (Has p)) → (pairs : List Pair) →
      First pairs ⊎ IsNone Has pairs
  first_or_none each [] = inr tt
  first_or_none each (q ∷ qs) = first-next q qs (each q) (first_or_none each qs)

  -- there are no two first ones
  one_first : (pairs : List Pair) (p q : Pair) → IsFirst Has pairs p → IsFirst Has pairs q → p ≡ q
  one_first [] p q x y = absurd x
  one_first (r ∷ rs) p q (inl x) (inl y) = x.0 ∙ sym y.0
  one_first (r ∷ rs) p q (inl x) (inr y) = absurd (y.0 x.1)
  one_first (r ∷ rs) p q (inr x) (inl y) = absurd (x.0 y.1)
  one_first (r ∷ rs) p q (inr x) (inr y) = one_first rs p q x.1 y.1

  -- where none of the pairs has the property, there is no first one
  not_both : (pairs : List Pair) (p : Pair) → IsFirst Has pairs p → IsNone Has pairs → ⊥
  not_both [] p x none = x
  not_both (r ∷ rs) p (inl x) none = none.0 x.1
  not_both (r ∷ rs) p (inr x) none = not_both rs p x.1 none.1

-- what is chosen of these pairs after a trigger
module _ (ls : List Line) (t : Trigger) (pairs : List Pair) where
  abbrev Choice : Type 0
  Choice = (o : Option Chosen) × Chooses ls t pairs o

  by_keyword : IsNone (IsFoundFor ls t) pairs →
      First (IsMet ls t) pairs ⊎ IsNone (IsMet ls t) pairs → Choice
  by_keyword none (inl first) = (Some (chosen first.0 None), (none, first.1))
  by_keyword none (inr never) = (None, (none, never))

  by_pattern : First (IsFoundFor ls t) pairs ⊎ IsNone (IsFoundFor ls t) pairs → Choice
  by_pattern (inl first) =
      (Some (chosen first.0 (Some first.2.0)), (first.1, first.2.1))
  by_pattern (inr none) = by_keyword none (first_or_none (IsMet ls t) (met ls t) pairs)

  -- there is a choice
  pub has_choice : (o : Option Chosen) × Chooses ls t pairs o
  has_choice = by_pattern (first_or_none (IsFoundFor ls t) (found_for ls t) pairs)

  same_find : (p q : Pair) (f g : Found) → p ≡ q → Finds ls t p f → Finds ls t q g → f ≡ g
  same_find p q f g same x y =
      one_find p.branch.awaited (line_of ls p.id) f g x.finds (rw same y.finds)

  one_chosen : (p q : Pair) (f g : Option Found) → IsChosen ls t pairs p f →
      IsChosen ls t pairs q g → (p ≡ q) × (f ≡ g)
  one_chosen p q (Some f) (Some g) x y =
      let same = one_first (IsFoundFor ls t) pairs p q x.0 y.0 in
      (same, ap Some (same_find p q f g same x.1 y.1))
  one_chosen p q (Some f) None x y = absurd (not_both (IsFoundFor ls t) pairs p x.0 y.0)
  one_chosen p q None (Some g) x y = absurd (not_both (IsFoundFor ls t) pairs q y.0 x.0)
  one_chosen p q None None x y = (one_first (IsMet ls t) pairs p q x.1 y.1, refl)

  some_or_none : (p : Pair) (f : Option Found) → IsChosen ls t pairs p f →
      IsNone (IsFoundFor ls t) pairs × IsNone (IsMet ls t) pairs → ⊥
  some_or_none p (Some f) x none = not_both (IsFoundFor ls t) pairs p x.0 none.0
  some_or_none p None x none = not_both (IsMet ls t) pairs p x.1 none.1

  -- there is no second one
  pub one_choice : (a b : Option Chosen) → Chooses ls t pairs a → Chooses ls t pairs b → a ≡ b
  one_choice None None x y = refl
  one_choice None (Some d) x y = absurd (some_or_none d.pair d.found y x)
  one_choice (Some c) None x y = absurd (some_or_none c.pair c.found x y)
  one_choice (Some c) (Some d) x y =
      let same = one_chosen c.pair d.pair c.found d.found x y in
      λ k. Some (chosen (same.0 k) (same.1 k))
