-- What is kept of what came from the links that are open.
use Rattle.std.specs.Prelude.{◌≡◌, ◌<◌, ◌==◌, ◌++◌, ℕ, Bool, List, [], ◌∷◌, length, map, slice_index_or, if◌then◌else◌}
use Rattle.std.specs.List.{list_any}
use Rattle.acts.specs.declared.id.Id.{Id}
use Rattle.live.specs.Calls.{Call, Made, heard, sent}
use Rattle.live.specs.declared.peers.Peer.{Peer}

-- what is kept of what came from the link of an id, where one is open; `owner` says whose a link is
abbrev pub kept_of : {L : Type 0} → (L → Id) → List (Peer L) → Id → List ℕ
kept_of owner [] id = []
kept_of owner (peer ∷ list) id =
    if (owner peer.link).0 == id.0 then peer.early.items else kept_of owner list id

-- the ids of the links that are open, in the order of the table
abbrev pub ids_of : {L : Type 0} → (L → Id) → List (Peer L) → List Id
ids_of owner list = map (λ peer. owner peer.link) list

-- whether a link of an id is among those that are open
abbrev pub is_open : (ids : List Id) → Id → Bool
is_open ids id = list_any (λ one. one.0 == id.0) ids

-- the ids before a place have lesser numbers than this one
abbrev pub ArePast : (ids : List Id) → (place number : ℕ) → Type 0
ArePast ids place number = (k : ℕ) (id : Id) → k < place → k < length ids →
    (slice_index_or ids k id).0 < number

-- these bytes for one id, and none for any other
abbrev pub only : Id → List ℕ → Id → List ℕ
only id bytes other = if id.0 == other.0 then bytes else []

-- of each id: what was kept and what was read from its link by these calls, joined, is what is
-- handed on and what stays kept, in order, nothing twice and nothing dropped; and its link took
-- this text (this project's own)
abbrev pub Trades : (kept : Id → List ℕ) → List Call → (text handed left : Id → List ℕ) → Type 0
Trades kept calls text handed left =
    (id : Id) → (kept id ++ heard id calls ≡ handed id ++ left id) × (sent id calls ≡ text id)

-- some calls with this effect led the system from before to after
abbrev pub Traded : {S : Type 0} → (S → Call → S → Type 0) → S →
    (kept text handed left : Id → List ℕ) → S → Type 0
Traded step before kept text handed left after =
    (calls : List Call) × Made step before calls after × Trades kept calls text handed left
