-- The spawn ids of a run, open and closed, and what is set for later ones.
use Rattle.std.specs.Prelude.{ℕ, ◌+◌, ◌^◌, nat_le, Bool, List, [], ◌∷◌, ◌++◌, length, map, Option, Some, None, if◌then◌else◌}
use Rattle.acts.specs.declared.id.Id.{Id}
use Rattle.choices.specs.Kinds.{Kind}
use Rattle.choices.specs.Lines.{Line}
use Rattle.choices.specs.Peers.{Peer, fresh, opened, at_peer, shut as closed, line}
use Rattle.dialog.specs.Standing.{Standing, unpaired}

-- the ids in the order of their numbers, with all that ever happened to them; the standing pairs;
-- the size of later buffers, and whether nulls are removed from what arrives at later ids; the
-- number of the next id (expect(1), spawn, expect_before, match_max -d and remove_nulls -d)
pub record Ids : Type 0 where
  pub peers : List Peer
  pub standing : Standing
  pub size : ℕ
  pub drops_nulls : Bool
  pub next : ℕ

-- the lines of the open ids, as the table has them
abbrev pub lines_of : Ids → List Line
lines_of ids = map line (opened ids.peers)

-- the next id, where fewer than 64 are open and a number below 2^64 is left (this project's own
-- rule)
abbrev pub next_in : Ids → Option Id
next_in ids =
    if nat_le 64 (length (opened ids.peers)) then None
    else if nat_le (2 ^ 64) ids.next then None
    else Some (record { 0 = ids.next })

-- the next number is used up (this project's own rule)
abbrev pub skipped : Ids → Ids
skipped ids = record ids { next = ids.next + 1 }

-- an id of the next number is opened, with an empty buffer of the size that is set (expect(1),
-- spawn)
abbrev pub with_fresh : Id → Kind → Ids → Ids
with_fresh i kind ids =
    record (skipped ids) { peers = ids.peers ++ fresh i kind ids.size ids.drops_nulls ∷ [] }

-- an open id is changed
abbrev pub with_peer : (Peer → Peer) → Id → Ids → Ids
with_peer change i ids = record ids { peers = at_peer change i ids.peers }

-- an open id is closed, and its standing pairs go (expect(1), close)
abbrev pub without_id : Id → Ids → Ids
without_id i ids = record (with_peer closed i ids) { standing = unpaired i ids.standing }

-- an id that may be waited for, and what it was opened for (expect(1), wait)
pub record Unreaped : Type 0 where
  pub id : Id
  pub kind : Kind

-- the ids, open or closed, that were not waited for yet (expect(1), wait)
abbrev pub unreaped : List Peer → List Unreaped
unreaped [] = []
unreaped (p ∷ ps) =
    if p.is_reaped then unreaped ps else record { id = p.id; kind = p.kind } ∷ unreaped ps
