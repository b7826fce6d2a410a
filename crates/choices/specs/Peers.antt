-- The spawn ids of the definition, each with all that ever happened to its match buffer.
use Rattle.std.specs.Prelude.{◌≡◌, ℕ, ◌==◌, ◌&&◌, Bool, true, false, List, [], ◌∷◌, map, if◌then◌else◌}
use Rattle.acts.specs.declared.id.Id.{Id}
use Rattle.matchbuf.specs.Held.{held}
use Rattle.matchbuf.specs.Journal.{Record, Arrived, Consumed, Sized, IsJournal, window, size_of, place_after}
use Rattle.choices.specs.Kinds.{Kind}
use Rattle.choices.specs.Lines.{Line, reaching}

-- a spawn id: what it was opened for, whether it is open, whether `wait` has reaped it, whether
-- nulls are removed from what arrives, and all that ever came to it and was consumed (expect(1),
-- spawn, close, wait and remove_nulls)
pub record Peer : Type 0 where
  pub id : Id
  pub kind : Kind
  pub is_open : Bool
  pub is_reaped : Bool
  pub drops_nulls : Bool
  pub journal : List Record

-- the journal of an id that is just opened: its size is 2,000 bytes, and then that which was set as
-- the default, where it is another (expect(1), spawn and match_max -d)
abbrev pub fresh_journal : ℕ → List Record
fresh_journal max = if max == 2000 then Sized 2000 ∷ [] else Sized max ∷ Sized 2000 ∷ []

-- an id that is just opened, with an empty buffer of that size, and whether nulls are removed
-- (expect(1), spawn, match_max -d and remove_nulls -d)
abbrev pub fresh : Id → Kind → ℕ → Bool → Peer
fresh i kind max drops = record {
  id = i;
  kind = kind;
  is_open = true;
  is_reaped = false;
  drops_nulls = drops;
  journal = fresh_journal max;
}

-- the ids that are open
abbrev pub opened : List Peer → List Peer
opened [] = []
opened (p ∷ ps) = if p.is_open then p ∷ opened ps else opened ps

-- the numbers of ids
abbrev pub numbers_of : List Peer → List ℕ
numbers_of ps = map (λ p. p.id.0) ps

-- the id has that number, and is open
abbrev pub is_open_at : Id → Peer → Bool
is_open_at i p = p.is_open && (p.id.0 == i.0)

-- an open id is changed
abbrev pub at_peer : (Peer → Peer) → Id → List Peer → List Peer
at_peer change i [] = []
at_peer change i (p ∷ ps) = if is_open_at i p then change p ∷ ps else p ∷ at_peer change i ps

-- one record more in its journal
abbrev pub recorded : Record → Peer → Peer
recorded r p = record p { journal = r ∷ p.journal }

-- bytes arrived, and reached the buffer with or without their nulls (expect(1), remove_nulls)
abbrev pub arrived : List ℕ → Peer → Peer
arrived bytes p = recorded (Arrived (reaching p.drops_nulls bytes)) p

-- the first n bytes of the window were consumed (expect(1), expect)
abbrev pub consumed : ℕ → Peer → Peer
consumed n p = recorded (Consumed (place_after p.journal n)) p

-- the size was set (expect(1), match_max)
abbrev pub sized : ℕ → Peer → Peer
sized max p = recorded (Sized max) p

-- nulls are removed from now on, or are not (expect(1), remove_nulls)
abbrev pub set_nulls : Bool → Peer → Peer
set_nulls drops p = record p { drops_nulls = drops }

-- the id was closed (expect(1), close)
abbrev pub shut : Peer → Peer
shut p = record p { is_open = false }

-- what the table has of an open id
abbrev pub line : Peer → Line
line p = record {
  id = p.id;
  kind = p.kind;
  held = held (window p.journal) (size_of p.journal);
  drops_nulls = p.drops_nulls;
}

-- each has a journal
abbrev pub HaveJournals : List Peer → Type 0
HaveJournals [] = Unit {0}
HaveJournals (p ∷ ps) = IsJournal p.journal × HaveJournals ps

-- the table has the open ids, and each buffer holds what its id's journal leaves
pub record FitsPeers (ls : List Line) (ps : List Peer) : Type 0 where
  pub journals : HaveJournals (opened ps)
  pub lines : map line (opened ps) ≡ ls
