-- The ids of the code fit those of the definition again where some of both has changed.
use Rattle.std.proofs.Common.{◌≡◌, ℕ, ◌+◌, ◌^◌, ◌<◌, ◌≤◌, nat_lt, nat_le, Bool, true, false, List, [], ◌∷◌, ◌++◌, length, map, Option, Some, None, if◌then◌else◌, refl, sym, ap, ap₂, ◌∙◌, arith}
use Rattle.std.proofs.lemmas.Bool.Decides.{nat_tests}
use Rattle.std.proofs.lemmas.List.{length-map}
use Rattle.std.specs.Option.{option_map}
use Rattle.acts.specs.declared.id.Id.{Id}
use Rattle.choices.specs.Kinds.{Kind}
use Rattle.choices.specs.Lines.{Line, Listing, listing, id_of, next_id, number_after, fresh_line}
use Rattle.choices.specs.Peers.{Peer, FitsPeers, at_peer, is_open_at, opened, shut as closed, line, fresh}
use Rattle.dialog.specs.Standing.{Standing, unpaired}
use Rattle.choices.specs.Views.{kind_of}
use Rattle.state.specs.Ids as definition
use Rattle.state.specs.Ids.{Unreaped, next_in, unreaped, with_fresh, without_id, with_peer}
use Rattle.choices.specs.declared.kind.Kind as kinds
use Rattle.choices.proofs.Opened.{others_left}
use Rattle.state.specs.View.{FitsIds, FirstCloses, IsNext, unreaped_by, unreaped_of}
use Rattle.state.specs.declared.ids.Ids.{Ids}
use Rattle.state.specs.declared.ids.Unreaped as reapable

-- a change of an id after which it may be waited for as before
pub record StaysReapable (g : Peer → Peer) : Type 0 where
  pub is_reaped : (p : Peer) → (g p).is_reaped ≡ p.is_reaped
  pub id : (p : Peer) → (g p).id ≡ p.id
  pub kind : (p : Peer) → (g p).kind ≡ p.kind

-- the ids that may be waited for: the first id, unless it is reaped, and the others
abbrev reapable_first : Bool → Id → Kind → List Unreaped → List Unreaped
reapable_first reaped i kind others =
    if reaped then others else record { id = i; kind = kind } ∷ others

module _ (g : Peer → Peer) (stays : StaysReapable g) (i : Id) where
  first_stays : (p : Peer) (ps : List Peer) → unreaped (g p ∷ ps) ≡ unreaped (p ∷ ps)
  first_stays p ps =
      ap (λ r. reapable_first r (g p).id (g p).kind (unreaped ps)) (stays.is_reaped p)
      ∙ ap (λ j. reapable_first p.is_reaped j (g p).kind (unreaped ps)) (stays.id p)
      ∙ ap (λ k. reapable_first p.is_reaped p.id k (unreaped ps)) (stays.kind p)

  by : (p : Peer) (ps : List Peer) (b : Bool) → unreaped (at_peer g i ps) ≡ unreaped ps →
      unreaped (if b then g p ∷ ps else p ∷ at_peer g i ps) ≡ unreaped (p ∷ ps)
  by p ps true rest = first_stays p ps
  by p ps false rest = ap (reapable_first p.is_reaped p.id p.kind) rest

  -- the same ids may be waited for
  pub unreaped_stay : (ps : List Peer) → unreaped (at_peer g i ps) ≡ unreaped ps
  unreaped_stay [] = refl
  unreaped_stay (p ∷ ps) = by p ps (is_open_at i p) (unreaped_stay ps)

-- closing an id does not change whether it may be waited for
pub stays_closed : StaysReapable closed
stays_closed = record { is_reaped = λ p. refl; id = λ p. refl; kind = λ p. refl }

-- two equal lists stay equal with one more id before them, where that may be waited for
unreaped_by_one : (p : Peer) (b : Bool) (us vs : List Unreaped) → us ≡ vs →
    reapable_first b p.id p.kind us ≡ reapable_first b p.id p.kind vs
unreaped_by_one p b us vs same = ap (reapable_first b p.id p.kind) same

first_more : (b : Bool) (i : Id) (kind : Kind) (us vs : List Unreaped) →
    reapable_first b i kind (us ++ vs) ≡ reapable_first b i kind us ++ vs
first_more true i kind us vs = refl
first_more false i kind us vs = refl

pub unreaped_more : (ps qs : List Peer) → unreaped (ps ++ qs) ≡ unreaped ps ++ unreaped qs
unreaped_more [] qs = refl
unreaped_more (p ∷ ps) qs =
    ap (reapable_first p.is_reaped p.id p.kind) (unreaped_more ps qs)
    ∙ first_more p.is_reaped p.id p.kind (unreaped ps) (unreaped qs)

map_more : (us : List reapable.Unreaped) (u : reapable.Unreaped) →
    map unreaped_of (us ++ u ∷ []) ≡ map unreaped_of us ++ unreaped_of u ∷ []
map_more [] u = refl
map_more (v ∷ us) u = ap (λ vs. unreaped_of v ∷ vs) (map_more us u)

-- the number after the next one
pub next_after : (o : Option ℕ) (n : ℕ) → IsNext o n → IsNext (number_after o) (n + 1)
next_after None n is = omega (arith, is)
next_after (Some k) n is = by_test (nat_lt (k + 1) (2 ^ 64)) refl
  where
    by_test : (b : Bool) → nat_lt (k + 1) (2 ^ 64) ≡ b →
        IsNext (if b then Some (k + 1) else None) (n + 1)
    by_test true below =
        let lt : k + 1 < 2 ^ 64 = grind (arith, nat_tests) in (omega (arith, is.0), lt)
    by_test false not =
        let le : 2 ^ 64 ≤ k + 1 = grind (arith, nat_tests) in omega (arith, is.0, le)

-- the id of the next number, where one is left
next_by : (o : Option ℕ) (n : ℕ) → IsNext o n →
    option_map id_of o ≡ (if nat_le (2 ^ 64) n then None else Some (record { 0 = n }))
next_by None n is =
    let none : nat_le (2 ^ 64) n ≡ true = grind (arith, nat_tests) in rw none refl
next_by (Some k) n is =
    let some : nat_le (2 ^ 64) n ≡ false = grind (arith, nat_tests) in
    rw some (ap (λ m. Some (id_of m)) is.0)

module _ {A : Type 0} (code : Ids A) (ids : definition.Ids) (fits : FitsIds code ids) where
  -- the id of the next number is that of the table
  pub next_is : next_id code.table ≡ next_in ids
  next_is =
      let count : length code.table.lines ≡ length (opened ids.peers) =
      ap length (sym fits.peers.lines) ∙ length-map (opened ids.peers) line in
      ap (λ n. if nat_le 64 n then None else option_map id_of code.table.next) count
      ∙ ap (λ o. if nat_le 64 (length (opened ids.peers)) then None else o)
      (next_by code.table.next ids.next fits.next)

  -- an open id is changed, and may be waited for as before
  pub peers_fit : (table : Listing) (g : Peer → Peer) (i : Id) → StaysReapable g →
      FitsPeers table.lines (at_peer g i ids.peers) → table.next ≡ code.table.next →
      FitsIds (record code { table = table }) (with_peer g i ids)
  peers_fit table g i stays peers next = record {
    peers = peers;
    unreaped = fits.unreaped ∙ sym (unreaped_stay g stays i ids.peers);
    standing = fits.standing;
    size = fits.size;
    drops_nulls = fits.drops_nulls;
    next = rw next fits.next;
  }

  -- an open id is closed, and its pairs are gone
  pub closed_fit : (table : Listing) (standing : Standing) (i : Id) →
      FitsPeers table.lines (at_peer closed i ids.peers) → table.next ≡ code.table.next →
      standing ≡ unpaired i code.standing →
      FitsIds (record code { table = table; standing = standing }) (without_id i ids)
  closed_fit table standing i peers next unpaired_is = record {
    peers = peers;
    unreaped = fits.unreaped ∙ sym (unreaped_stay closed stays_closed i ids.peers);
    standing = ap (unpaired i) fits.standing ∙ sym unpaired_is;
    size = fits.size;
    drops_nulls = fits.drops_nulls;
    next = rw next fits.next;
  }

-- the first of the lines of some ids is that of the first id
pub split_lines : (ps : List Peer) (l : Line) (ls : List Line) → map line ps ≡ l ∷ ls →
    (p : Peer) × (others : List Peer) × (ps ≡ p ∷ others) × (line p ≡ l)
split_lines [] l ls is = absurd (cc)
split_lines (p ∷ ps) l ls is = (p, ps, refl, cc)

-- the open id that was opened first is closed
pub first_closes : {A : Type 0} (code : Ids A) (ids : definition.Ids) → FitsIds code ids →
    {new : Ids A} (i : Id) (l : Line) (ls : List Line) → code.table.lines ≡ l ∷ ls → l.id ≡ i →
    FitsIds new (without_id i ids) → FirstCloses i new ids
first_closes code ids fits i l ls split same closes =
    let at = split_lines (opened ids.peers) l ls (fits.peers.lines ∙ split) in
    let is : at.0.id ≡ i = ap (λ (m : Line). m.id) at.3 ∙ same in
    record {
      peer = at.0;
      others = at.1;
      split = at.2;
      same = is;
      rest = ap (λ j. opened (at_peer closed j ids.peers)) (sym is)
          ∙ others_left at.0 at.1 ids.peers at.2;
      fits = closes;
    }

-- an id is opened after all others
pub fresh_fits : {A : Type 0} (code new : Ids A) (ids : definition.Ids) → FitsIds code ids →
    (table : Listing) (i : Id) (kind : kinds.Kind) →
    FitsPeers table.lines
    (ids.peers ++ fresh i (kind_of kind) code.size.bytes code.drops_nulls ∷ []) →
    table ≡ listing (code.table.lines ++ fresh_line i (kind_of kind) code.size.bytes code.drops_nulls ∷ [])
    (number_after code.table.next) → new.table ≡ table →
    new.unreaped.items ≡ code.unreaped.items ++ unreaped_by i kind ∷ [] →
    new.standing ≡ code.standing → new.size.bytes ≡ code.size.bytes →
    new.drops_nulls ≡ code.drops_nulls → FitsIds new (with_fresh i (kind_of kind) ids)
fresh_fits code new ids fits table i kind peers listed is more standing size drops =
    let old : List Peer = ids.peers in
    let one : List Peer = fresh i (kind_of kind) ids.size ids.drops_nulls ∷ [] in
    let same : fresh i (kind_of kind) code.size.bytes code.drops_nulls ∷ [] ≡ one =
    ap₂ (λ m d. fresh i (kind_of kind) m d ∷ []) (sym fits.size) (sym fits.drops_nulls) in
    record {
      peers = rw is (rw (ap (λ (qs : List Peer). old ++ qs) same) at peers);
      unreaped = ap (map unreaped_of) more ∙ map_more code.unreaped.items (unreaped_by i kind)
          ∙ ap (λ us. us ++ unreaped_of (unreaped_by i kind) ∷ []) fits.unreaped
          ∙ sym (unreaped_more old one);
      standing = fits.standing ∙ sym standing;
      size = fits.size ∙ sym size;
      drops_nulls = fits.drops_nulls ∙ sym drops;
      next = rw (is, listed) (next_after code.table.next ids.next fits.next);
    }
