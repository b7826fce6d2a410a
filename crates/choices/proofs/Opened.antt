-- The open ids of the definition after one of them was changed or closed.
use Rattle.std.proofs.Common.{◌≡◌, ℕ, suc, ◌≤◌, ◌==◌, ◌&&◌, Bool, true, false, List, [], ◌∷◌, length, if◌then◌else◌, refl, sym, ap, ◌∙◌, arith}
use Rattle.std.proofs.lemmas.Bool.Decides.{nat_tests}
use Rattle.acts.specs.declared.id.Id.{Id}
use Rattle.matchbuf.specs.Journal.{Record}
use Rattle.choices.specs.Peers.{Peer, opened, at_peer, shut, recorded, arrived, consumed, sized, set_nulls}
use Rattle.choices.proofs.Peers.{opened-first}

-- ids without the first of that number
abbrev pub without_peer : Id → List Peer → List Peer
without_peer i [] = []
without_peer i (p ∷ ps) = if p.id.0 == i.0 then ps else p ∷ without_peer i ps

at-first : (g : Peer → Peer) (i : Id) (p : Peer) (ps : List Peer) (a b : Bool) → p.is_open ≡ a →
    (p.id.0 == i.0) ≡ b →
    at_peer g i (p ∷ ps) ≡ (if a && b then g p ∷ ps else p ∷ at_peer g i ps)
at-first g i p ps a b is hit = λ k. if is k && hit k then g p ∷ ps else p ∷ at_peer g i ps

-- where an id is closed, the first of its number goes from the open ones
module _ (i : Id) where
  abbrev Leaves : List Peer → Type 0
  Leaves ps = opened (at_peer shut i ps) ≡ without_peer i (opened ps)

  out-first : (p : Peer) (ps : List Peer) (b : Bool) → (p.id.0 == i.0) ≡ b →
      without_peer i (p ∷ ps) ≡ (if b then ps else p ∷ without_peer i ps)
  out-first p ps b hit = ap (λ (c : Bool). if c then ps else p ∷ without_peer i ps) hit

  by : (p : Peer) (ps : List Peer) (a b : Bool) → p.is_open ≡ a → (p.id.0 == i.0) ≡ b →
      Leaves ps → Leaves (p ∷ ps)
  by p ps false b closed is rest =
      ap opened (at-first shut i p ps false b closed is)
      ∙ opened-first p (at_peer shut i ps) false closed ∙ rest
      ∙ ap (without_peer i) (sym (opened-first p ps false closed))
  by p ps true false is miss rest =
      ap opened (at-first shut i p ps true false is miss)
      ∙ opened-first p (at_peer shut i ps) true is ∙ ap (λ qs. p ∷ qs) rest
      ∙ sym (out-first p (opened ps) false miss)
      ∙ ap (without_peer i) (sym (opened-first p ps true is))
  by p ps true true is hit rest =
      ap opened (at-first shut i p ps true true is hit)
      ∙ sym (out-first p (opened ps) true hit)
      ∙ ap (without_peer i) (sym (opened-first p ps true is))

  pub opened_after_shut : (ps : List Peer) → opened (at_peer shut i ps) ≡ without_peer i (opened ps)
  opened_after_shut [] = refl
  opened_after_shut (p ∷ ps) = by p ps p.is_open (p.id.0 == i.0) refl refl (opened_after_shut ps)

-- a number equals itself
pub same_number : (n : ℕ) → (n == n) ≡ true
same_number n = grind (arith, nat_tests)

-- where the first open id is closed, the others stay open
pub others_left : (p : Peer) (others ps : List Peer) → opened ps ≡ p ∷ others →
    opened (at_peer shut p.id ps) ≡ others
others_left p others ps is =
    opened_after_shut p.id ps ∙ ap (without_peer p.id) is
    ∙ out-first p.id p others true (same_number p.id.0)

-- as many are open after a change that leaves ids as open as they were
module _ (g : Peer → Peer) (i : Id) (as_open : (p : Peer) → (g p).is_open ≡ p.is_open) where
  abbrev Stays : List Peer → Type 0
  Stays ps = length (opened (at_peer g i ps)) ≡ length (opened ps)

  count-by : (p : Peer) (ps : List Peer) (a b : Bool) → p.is_open ≡ a → (p.id.0 == i.0) ≡ b →
      Stays ps → Stays (p ∷ ps)
  count-by p ps false b closed is rest =
      ap (λ qs. length (opened qs)) (at-first g i p ps false b closed is)
      ∙ ap length (opened-first p (at_peer g i ps) false closed) ∙ rest
      ∙ ap length (sym (opened-first p ps false closed))
  count-by p ps true false is miss rest =
      ap (λ qs. length (opened qs)) (at-first g i p ps true false is miss)
      ∙ ap length (opened-first p (at_peer g i ps) true is) ∙ ap suc rest
      ∙ ap length (sym (opened-first p ps true is))
  count-by p ps true true is hit rest =
      ap (λ qs. length (opened qs)) (at-first g i p ps true true is hit)
      ∙ ap length (opened-first (g p) ps true (as_open p ∙ is))
      ∙ ap length (sym (opened-first p ps true is))

  pub count_kept : (ps : List Peer) → length (opened (at_peer g i ps)) ≡ length (opened ps)
  count_kept [] = refl
  count_kept (p ∷ ps) = count-by p ps p.is_open (p.id.0 == i.0) refl refl (count_kept ps)

pub count_recorded : (r : Record) (i : Id) (ps : List Peer) →
    length (opened (at_peer (recorded r) i ps)) ≡ length (opened ps)
count_recorded r i ps = count_kept (recorded r) i (λ p. refl) ps

pub count_arrived : (bytes : List ℕ) (i : Id) (ps : List Peer) →
    length (opened (at_peer (arrived bytes) i ps)) ≡ length (opened ps)
count_arrived bytes i ps = count_kept (arrived bytes) i (λ p. refl) ps

pub count_consumed : (n : ℕ) (i : Id) (ps : List Peer) →
    length (opened (at_peer (consumed n) i ps)) ≡ length (opened ps)
count_consumed n i ps = count_kept (consumed n) i (λ p. refl) ps

pub count_sized : (max : ℕ) (i : Id) (ps : List Peer) →
    length (opened (at_peer (sized max) i ps)) ≡ length (opened ps)
count_sized max i ps = count_kept (sized max) i (λ p. refl) ps

pub count_set_nulls : (drops : Bool) (i : Id) (ps : List Peer) →
    length (opened (at_peer (set_nulls drops) i ps)) ≡ length (opened ps)
count_set_nulls drops i ps = count_kept (set_nulls drops) i (λ p. refl) ps

no_more : (i : Id) (ps : List Peer) → length (without_peer i ps) ≤ length ps
no_more i [] = omega arith
no_more i (p ∷ ps) = by-first (p.id.0 == i.0) (no_more i ps)
  where
    by-first : (b : Bool) → length (without_peer i ps) ≤ length ps →
        length (if b then ps else p ∷ without_peer i ps) ≤ length (p ∷ ps)
    by-first true rest = omega arith
    by-first false rest = omega arith

-- no more are open after one was closed
pub count_shut : (i : Id) (ps : List Peer) →
    length (opened (at_peer shut i ps)) ≤ length (opened ps)
count_shut i ps = rw (opened_after_shut i ps) (no_more i (opened ps))
