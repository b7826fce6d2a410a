-- A pattern is found at one place of a window, or it sits nowhere in it.
use Rattle.std.proofs.Common.{◌≡◌, ℕ, zero, suc, ◌<◌, ◌≤◌, ◌⊎◌, inl, inr, nat_eq, Bool, true, false, IsTrue, List, length, slice_range, refl, sym, subst, arith}
use Rattle.std.proofs.lemmas.Bool.Decides.{nat_tests}
use Rattle.patterns.specs.Item.{Reading}
use Rattle.patterns.specs.Match.{Whole, Sits, IsFound, SitsNowhere, compared}
use Rattle.patterns.proofs.Decided.{Decided, decided}

-- a number is at most another, or above it
pub up_to : (k n : ℕ) → (k ≤ n) ⊎ (n < k)
up_to zero n = inl (omega arith)
up_to (suc k) zero = inr (omega arith)
up_to (suc k) (suc n) = by (up_to k n)
  where
    by : (k ≤ n) ⊎ (n < k) → (suc k ≤ suc n) ⊎ (suc n < suc k)
    by (inl le) = inl (omega arith)
    by (inr lt) = inr (omega arith)

equal : (k n : ℕ) → Decided (k ≡ n)
equal k n = by (nat_eq k n) refl
  where
    by : (b : Bool) → nat_eq k n ≡ b → Decided (k ≡ n)
    by true is = inl (grind (arith, nat_tests))
    by false is = inr (λ same. grind (arith, nat_tests))

-- a number that is the next one, or no greater than this one
next_or : (k n : ℕ) → k ≤ suc n → (k ≤ n) ⊎ (k ≡ suc n)
next_or k n le = by (up_to k n)
  where
    by : (k ≤ n) ⊎ (n < k) → (k ≤ n) ⊎ (k ≡ suc n)
    by (inl low) = inl low
    by (inr high) = inr (omega arith)

-- the least and the greatest number that has a property
module _ (Has : ℕ → Type 0) (each : (k : ℕ) → Decided (Has k)) where
  abbrev NoneUpTo : ℕ → Type 0
  NoneUpTo n = (k : ℕ) → k ≤ n → Has k → ⊥

  abbrev Least : Type 0
  Least = (m : ℕ) × Has m × ((k : ℕ) → Has k → m ≤ k)

  abbrev Greatest : ℕ → Type 0
  Greatest n = (m : ℕ) × (m ≤ n) × Has m × ((k : ℕ) → k ≤ n → Has k → k ≤ m)

  at_zero : (k : ℕ) → k ≤ 0 → Has k → Has 0
  at_zero zero le has = has
  at_zero (suc k) le has = absurd (omega arith)

  not_next : (n : ℕ) → NoneUpTo n → (Has (suc n) → ⊥) → NoneUpTo (suc n)
  not_next n none not = λ k le has. by k has (next_or k n le)
    where
      by : (k : ℕ) → Has k → (k ≤ n) ⊎ (k ≡ suc n) → ⊥
      by k has (inl low) = none k low has
      by k has (inr same) = not (rw same at has)

  above : (n : ℕ) → NoneUpTo n → (k : ℕ) → Has k → suc n ≤ k
  above n none k has = by (up_to k n)
    where
      by : (k ≤ n) ⊎ (n < k) → suc n ≤ k
      by (inl low) = absurd (none k low has)
      by (inr high) = omega arith

  least-zero : Decided (Has 0) → Least ⊎ NoneUpTo 0
  least-zero (inl has) = inl (0, has, λ k is. omega arith)
  least-zero (inr not) = inr (λ k le has. not (at_zero k le has))

  least-next : (n : ℕ) → Decided (Has (suc n)) → Least ⊎ NoneUpTo n → Least ⊎ NoneUpTo (suc n)
  least-next n d (inl found) = inl found
  least-next n (inl has) (inr none) = inl (suc n, has, above n none)
  least-next n (inr not) (inr none) = inr (not_next n none not)

  -- there is a least number that has the property, or no number up to n has it
  pub least : (n : ℕ) → Least ⊎ NoneUpTo n
  least zero = least-zero (each 0)
  least (suc n) = least-next n (each (suc n)) (least n)

  greatest-zero : Decided (Has 0) → Greatest 0 ⊎ NoneUpTo 0
  greatest-zero (inl has) = inl (0, omega arith, has, λ k le is. le)
  greatest-zero (inr not) = inr (λ k le has. not (at_zero k le has))

  greatest-next : (n : ℕ) → Decided (Has (suc n)) → Greatest n ⊎ NoneUpTo n →
      Greatest (suc n) ⊎ NoneUpTo (suc n)
  greatest-next n (inl has) g = inl (suc n, omega arith, has, λ k le is. le)
  greatest-next n (inr not) (inl g) =
      inl (g.0, omega (arith, g.1), g.2, λ k le has. by k has (next_or k n le))
    where
      by : (k : ℕ) → Has k → (k ≤ n) ⊎ (k ≡ suc n) → k ≤ g.0
      by k has (inl low) = g.3 k low has
      by k has (inr same) = absurd (not (rw same at has))
  greatest-next n (inr not) (inr none) = inr (not_next n none not)

  -- there is a greatest number up to n that has the property, or none up to n has it
  pub greatest : (n : ℕ) → Greatest n ⊎ NoneUpTo n
  greatest zero = greatest-zero (each 0)
  greatest (suc n) = greatest-next n (each (suc n)) (greatest n)

-- what is asked for only where a tie is set is decided
asked : {P : Type 0} → (b : Bool) → Decided P → Decided (IsTrue b → P)
asked false d = inl (λ yes. absurd (cc))
asked true (inl is) = inl (λ yes. is)
asked true (inr not) = inr (λ f. not (f refl))

-- a pattern and a window
module _ (p : Reading) (w : List ℕ) where
  sits-by : (s e : ℕ) → (s ≤ e) ⊎ (e < s) → (e ≤ length w) ⊎ (length w < e) →
      Decided (Whole p.items (compared p.folds (slice_range w s e))) →
      Decided (IsTrue p.at_start → s ≡ 0) → Decided (IsTrue p.at_end → e ≡ length w) →
      Decided (Sits p w s e)
  sits-by s e (inr above) b c d f = inr (λ at. absurd (omega (arith, at.ordered)))
  sits-by s e (inl le) (inr above) c d f = inr (λ at. absurd (omega (arith, at.within)))
  sits-by s e (inl le) (inl in_w) (inr not) d f = inr (λ at. not at.whole)
  sits-by s e (inl le) (inl in_w) (inl whole) (inr not) f = inr (λ at. not at.at_start)
  sits-by s e (inl le) (inl in_w) (inl whole) (inl start) (inr not) = inr (λ at. not at.at_end)
  sits-by s e (inl le) (inl in_w) (inl whole) (inl start) (inl end) = inl (record {
    ordered = le;
    within = in_w;
    whole = whole;
    at_start = start;
    at_end = end;
  })

  sits : (s e : ℕ) → Decided (Sits p w s e)
  sits s e = sits-by s e (up_to s e) (up_to e (length w))
      (decided p.items (compared p.folds (slice_range w s e)))
      (asked p.at_start (equal s 0)) (asked p.at_end (equal e (length w)))

  -- the pattern sits somewhere with this start
  abbrev Begins : ℕ → Type 0
  Begins s = (e : ℕ) × Sits p w s e

  begins : (s : ℕ) → Decided (Begins s)
  begins s = by (greatest (Sits p w s) (sits s) (length w))
    where
      by : Greatest (Sits p w s) (sits s) (length w) ⊎ NoneUpTo (Sits p w s) (sits s) (length w) →
          Decided (Begins s)
      by (inl g) = inl (g.0, g.2)
      by (inr none) = inr (λ at. none at.0 at.1.within at.1)

  found_at : (s : ℕ) → Begins s → ((k : ℕ) → Begins k → s ≤ k) →
      Greatest (Sits p w s) (sits s) (length w) ⊎ NoneUpTo (Sits p w s) (sits s) (length w) →
      (e : ℕ) × IsFound p w s e
  found_at s at low (inl g) = (
    g.0,
    record {
      sits = g.2;
      least_start = λ k e is. low k (e, is);
      greatest_end = λ e is. g.3 e is.within is;
    },
  )
  found_at s at low (inr none) = absurd (none at.0 at.1.within at.1)

  found-by : Least Begins begins ⊎ NoneUpTo Begins begins (length w) →
      ((s e : ℕ) × IsFound p w s e) ⊎ SitsNowhere p w
  found-by (inl first) =
      let end = found_at first.0 first.1 first.2
      (greatest (Sits p w first.0) (sits first.0) (length w)) in
      inl (first.0, end.0, end.1)
  found-by (inr none) = inr (λ s e at. none s (omega (arith, at.ordered, at.within)) (e, at))

  -- the pattern is found somewhere, or it sits nowhere
  pub found_or_nowhere : ((s e : ℕ) × IsFound p w s e) ⊎ SitsNowhere p w
  found_or_nowhere = found-by (least Begins begins (length w))

  -- the pattern is found at no two places
  pub one_place : (s e t f : ℕ) → IsFound p w s e → IsFound p w t f → (s ≡ t) × (e ≡ f)
  one_place s e t f a b =
      let same : s ≡ t = omega (arith, a.least_start t f b.sits, b.least_start s e a.sits) in (
        same,
        omega (
          arith,
          a.greatest_end f (subst (λ k. Sits p w k f) (sym same) b.sits),
          b.greatest_end e (subst (λ k. Sits p w k e) same a.sits),
        ),
      )
