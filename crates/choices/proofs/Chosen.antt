-- What a choice leaves of the ids of the definition.
use Rattle.std.proofs.Common.{◌≡◌, ◌≤◌, ℕ, Bool, true, false, List, length, Option, Some, None, if◌then◌else◌, refl, sym, ap, ◌∙◌, arith}
use Rattle.std.specs.Prelude.{IfSome, ⊤}
use Rattle.matchbuf.specs.Held.{held}
use Rattle.matchbuf.specs.Journal.{IsJournal, Fits, window, size_of}
use Rattle.matchbuf.proofs.Windows.{fits_consumed}
use Rattle.patterns.specs.declared.search.Found.{Found}
use Rattle.choices.specs.Branches.{Awaited, Pair, Sought}
use Rattle.choices.specs.Choice.{Chosen, chosen, IsChosen, IsFirst, IsNone, IsFoundFor, IsMet, FindsIn, Finds, Share, Nothing, Front, Whole, takes, share_by, share_of, consumed_to, shortened_to, lines_after, peers_after, taken_of}
use Rattle.choices.specs.Lines.{Line, line_of, shortened}
use Rattle.choices.specs.Peers.{Peer, FitsPeers, consumed, line}
use Rattle.choices.specs.Selects.{Makes, taken_by}
use Rattle.choices.specs.Views.{line_by}
use Rattle.choices.specs.declared.choice.Choice.{Choice}
use Rattle.choices.specs.declared.choice.Trigger.{Trigger}
use Rattle.choices.proofs.Lines.{none_changed}
use Rattle.choices.proofs.Peers.{Keeps, changes}

-- the window of an id fits its journal
pub own_fits : (p : Peer) → IsJournal p.journal →
    Fits p.journal (held (window p.journal) (size_of p.journal))
own_fits p is = record { is_journal = is; bytes = refl; max = refl }

-- the first n bytes of the window are consumed
consumes : (n : ℕ) (p : Peer) → IsJournal p.journal → n ≤ length (window p.journal) →
    Keeps (consumed n) (shortened n) p
consumes n p is le =
    let fits = fits_consumed p.journal (held (window p.journal) (size_of p.journal)) n le
    (own_fits p is) in
    record {
      as_open = refl;
      journal = fits.is_journal;
      same = ap (λ (w : List ℕ). line_by p.id p.kind (held w (size_of p.journal)) p.drops_nulls)
          fits.bytes;
    }

-- the window is long enough for that share
abbrev Has : Share → List ℕ → Type 0
Has Nothing w = ⊤
Has (Front n) w = n ≤ length w
Has Whole w = ⊤

shares : (s : Share) (p : Peer) → IsJournal p.journal → Has s (window p.journal) →
    Keeps (consumed_to s) (shortened_to s) p
shares Nothing p is has = record { as_open = refl; journal = is; same = refl }
shares (Front n) p is has =
    let k = consumes n p is has in
    record { as_open = k.as_open; journal = k.journal; same = k.same }
shares Whole p is has =
    let k = consumes (length (window p.journal)) p is (omega arith) in
    record { as_open = k.as_open; journal = k.journal; same = k.same }

-- the match ends within the window
abbrev Within : Option Found → List ℕ → Type 0
Within f w = IfSome f (λ g. g.end ≤ length w)

has_share : (b stays : Bool) (f : Option Found) (w : List ℕ) → Within f w →
    Has (if b then share_by stays f else Nothing) w
has_share false stays f w le = tt
has_share true true (Some f) w le = tt
has_share true false (Some f) w le = le
has_share true stays None w le = tt

end_within : (a : Awaited) (l : Line) (f : Found) → FindsIn a (Some l) f →
    f.end ≤ length l.held.bytes
end_within (Sought q) l f found = found.sits.within
end_within _ l f never = absurd never

-- where a pattern is found, it is found within the window
within : (ls : List Line) (t : Trigger) (p : Pair) (f : Found) → Finds ls t p f → (l : Line) →
    line_of ls p.id ≡ Some l → Within (Some f) l.held.bytes
within ls t p f finds l is = end_within p.branch.awaited l f (rw is at finds.finds)

-- the ids fit after a choice
fits_after : (ls : List Line) (t : Trigger) (p : Pair) (f : Option Found) →
    ((l : Line) → line_of ls p.id ≡ Some l → Within f l.held.bytes) → (ps : List Peer) →
    FitsPeers ls ps → FitsPeers (lines_after t (chosen p f) ls) (peers_after t (chosen p f) ps)
fits_after ls t p f inside ps fits =
    let s = share_of t (chosen p f) in
    changes (consumed_to s) (shortened_to s) p.id ps ls
    (λ q is j. shares s q j
    (has_share (takes t) p.branch.flags.stays f (window q.journal) (inside (line q) is))) fits

-- a choice after a search that left the table as it was
makes-by : {A : Type 0} (choice : Choice A) (t : Trigger) (pairs : List Pair) (p : Pair)
    (f : Option Found) (old new : List Line) → IsChosen old t pairs p f →
    ((l : Line) → line_of old p.id ≡ Some l → Within f l.held.bytes) →
    choice.body ≡ p.branch.body → taken_by choice.taken ≡ taken_of old t (chosen p f) →
    new ≡ lines_after t (chosen p f) old → Makes choice t pairs old new
makes-by choice t pairs p f old new is inside body taken lines = record {
  selected = chosen p f;
  chooses = is;
  body = body;
  taken = taken;
  lines = lines;
  fits = λ ps fits. rw lines (fits_after old t p f inside ps fits);
}

-- a choice for a pattern, after a search that left the table as it was
pub makes_found : {A : Type 0} (choice : Choice A) (t : Trigger) (pairs : List Pair) (p : Pair)
    (f : Found) (old mid new : List Line) → mid ≡ old →
    IsFirst (IsFoundFor old t) pairs p × Finds old t p f → choice.body ≡ p.branch.body →
    taken_by choice.taken ≡ taken_of mid t (chosen p (Some f)) →
    new ≡ lines_after t (chosen p (Some f)) mid → Makes choice t pairs old new
makes_found choice t pairs p f old mid new same is body taken lines =
    makes-by choice t pairs p (Some f) old new is (within old t p f is.1) body
    (taken ∙ ap (λ ls. taken_of ls t (chosen p (Some f))) same)
    (lines ∙ ap (lines_after t (chosen p (Some f))) same)

-- the first pair whose keyword has come is the first in an equal table too
pub met_at : (mid old : List Line) (t : Trigger) (pairs : List Pair) (p : Pair) → mid ≡ old →
    IsFirst (IsMet mid t) pairs p → IsFirst (IsMet old t) pairs p
met_at mid old t pairs p same first = rw same at first

-- a choice for a keyword, after a search that left the table as it was
pub makes_met : {A : Type 0} (choice : Choice A) (t : Trigger) (pairs : List Pair) (p : Pair)
    (old mid new : List Line) → mid ≡ old → IsNone (IsFoundFor old t) pairs →
    IsFirst (IsMet mid t) pairs p → choice.body ≡ p.branch.body →
    taken_by choice.taken ≡ taken_of mid t (chosen p None) →
    new ≡ lines_after t (chosen p None) mid → Makes choice t pairs old new
makes_met choice t pairs p old mid new same none first body taken lines =
    makes-by choice t pairs p None old new (none, met_at mid old t pairs p same first)
    (λ l is. tt) body (taken ∙ ap (λ ls. taken_of ls t (chosen p None)) same)
    (lines ∙ ap (lines_after t (chosen p None)) same)

-- where nothing is taken, nothing changes
pub nothing_taken : (t : Trigger) (c : Chosen) (ls : List Line) → takes t ≡ false →
    ls ≡ lines_after t c ls
nothing_taken t c ls is = rw is (sym (none_changed c.pair.id ls))
