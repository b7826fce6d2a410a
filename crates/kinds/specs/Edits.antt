-- The changes that commands make of what a run keeps.
use Rattle.std.specs.Prelude.{ℕ, ◌==◌, ◌||◌, Bool, true, false, map}
use Rattle.state.specs.Prelude.{Id, Peer, Status, shut, Scopes}
use Rattle.choices.specs.Kinds.{Kind}
use Rattle.choices.specs.Peers.{set_nulls, sized}
use Rattle.state.specs.Ids.{Ids, skipped, with_fresh}
use Rattle.state.specs.Status.{at_id}

-- an id, open or closed, was waited for, where it is the given one (expect(1), wait)
abbrev pub reaped : Id → Peer → Peer
reaped i p = record p { is_reaped = p.is_reaped || (p.id.0 == i.0) }

-- an id, open or closed, was waited for (expect(1), wait)
abbrev pub without_unreaped : Id → Ids → Ids
without_unreaped i ids = record ids { peers = map (reaped i) ids.peers }

-- a change that opens nothing: the variables are these (set(n)); the size of the buffer of an open
-- id, or of later ones, is set (expect(1), match_max); nulls are removed from what arrives at an
-- id, or at later ones, or are not (expect(1), remove_nulls); an id is closed (expect(1), close),
-- or was waited for (expect(1), wait); the next number is used up, and names no id (this project's
-- own rule); what arrives is shown, or is not (expect(1), log_user); no log is open (expect(1),
-- log_file)
pub data Edit : Type 0 where
  Binds : (scopes : Scopes) → Edit
  Sizes : (id : Id) (bytes : ℕ) → Edit
  SizesLater : (bytes : ℕ) → Edit
  DropsNulls : (id : Id) (drops : Bool) → Edit
  DropsNullsLater : (drops : Bool) → Edit
  Shuts : (id : Id) → Edit
  Reaps : (id : Id) → Edit
  Skips : Edit
  ShowsArrivals : (shows : Bool) → Edit
  EndsLog : Edit

-- a change that opens what has to be closed: an id of the next number (expect(1), spawn), or a
-- log, which gets all or what is shown (expect(1), log_file)
pub data Opening : Type 0 where
  OpensId : (id : Id) (kind : Kind) → Opening
  OpensLog : (all : Bool) → Opening

-- the state after a change
abbrev pub edited : Edit → Status → Status
edited (Binds scopes) s = record s { scopes = scopes }
edited (Sizes i bytes) s = at_id (sized bytes) i s
edited (SizesLater bytes) s = record s { ids = record s.ids { size = bytes } }
edited (DropsNulls i drops) s = at_id (set_nulls drops) i s
edited (DropsNullsLater drops) s = record s { ids = record s.ids { drops_nulls = drops } }
edited (Shuts i) s = shut i s
edited (Reaps i) s = record s { ids = without_unreaped i s.ids }
edited Skips s = record s { ids = skipped s.ids }
edited (ShowsArrivals shows) s = record s { log = record s.log { user = shows } }
edited EndsLog s = record s { log = record s.log { logging = false } }

-- the state after an opening
abbrev pub opened_by : Opening → Status → Status
opened_by (OpensId i kind) s = record s { ids = with_fresh i kind s.ids }
opened_by (OpensLog all) s = record s { log = record s.log { logging = true; all = all } }
