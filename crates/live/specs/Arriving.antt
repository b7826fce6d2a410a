-- What comes in a wait.
use Rattle.std.specs.Prelude.{◌≡◌, ◌==◌, ◌&&◌, ◌++◌, ◌<◌, ◌⊎◌, ℕ, Bool, true, false, nat_le, List, [], ◌∷◌, length, Option, Some, None, ⊤}
use Rattle.std.specs.declared.time.Instant.{Instant}
use Rattle.acts.specs.declared.id.Id.{Id}
use Rattle.acts.specs.declared.act.Timer.{Timer}
use Rattle.acts.specs.declared.act.Timer.TheVariants as timer
use Rattle.live.specs.Calls.{Call, Got, Made, Read, is_read}
use Rattle.live.specs.Kept.{Trades, is_open, only}
use Rattle.live.specs.Look.{IsEnd, IsNothing}
use Rattle.live.specs.Waiting.{IsNow, IsUp, Paused, Pauses, ShowsUp, Starts}
use Rattle.std.specs.List.{AllByRecursion, list_any}
use Rattle.acts.specs.declared.row.Row.{Row}
use Rattle.acts.specs.Deed.{Reply}
use Rattle.acts.specs.Deed as said

-- the end of the row's id, or bytes of it, no more than the row wants (expect(1), match_max)
abbrev pub is_of : Row → Reply → Bool
is_of row (said.Arrive id bytes) = row.id.0 == id.0 && nat_le (length bytes) row.want
is_of row (said.Ended id) = row.id.0 == id.0
is_of row _ = false

-- one of the rows is answered
abbrev pub comes : List Row → Reply → Bool
comes rows reply = list_any (λ row. is_of row reply) rows

-- bytes that come are no more than a row of their id wants
abbrev pub is_wanted : List Row → Reply → Bool
is_wanted rows (said.Arrive id bytes) = comes rows (said.Arrive id bytes)
is_wanted rows _ = true

-- the bytes that an answer hands on for an id
abbrev pub handed : Option Reply → Id → List ℕ
handed (Some (said.Arrive from bytes)) id = only from bytes id
handed _ id = []

-- an end is told only where the last of these calls found it on the link of the id, and nothing
-- from it is kept (expect(1), eof)
abbrev pub EndsSo : Option Reply → List Call → (left : Id → List ℕ) → Type 0
EndsSo (Some (said.Ended id)) calls left =
    (left id ≡ [])
    × ((front : List Call) × (got : Got) × IsEnd got × (calls ≡ front ++ Read id got ∷ []))
EndsSo _ calls left = ⊤

-- that the time is up is told only where the last of these calls shows it (expect(1), timeout)
abbrev pub IsDue : Option Instant → Reply → List Call → Type 0
IsDue deadline said.TimedOut calls = IsUp deadline calls
IsDue deadline _ calls = ⊤

-- a call that is a read from a link
abbrev pub IsRead : Call → Type 0
IsRead call = (id : Id) × (got : Got) × (call ≡ Read id got)

-- a call that gave no bytes and found no end: a read that found nothing yet, or no read at all
abbrev pub IsQuiet : Call → Type 0
IsQuiet (Read id got) = IsNothing got
IsQuiet _ = ⊤

-- nothing is kept of a row that wants bytes and whose id is open, and these calls read from its
-- link; `ids` are those of the links that are open
abbrev pub IsSilent : (ids : List Id) → List Call → (left : Id → List ℕ) → Row → Type 0
IsSilent ids calls left row =
    is_open ids row.id ≡ true → 0 < row.want → (left row.id ≡ []) × (is_read row.id calls ≡ true)

-- where a look at these rows found nothing, each row was silent, and no read gave anything
abbrev pub IsSilence : (ids : List Id) → List Row → Option Reply → List Call →
    (left : Id → List ℕ) → Type 0
IsSilence ids rows None calls left =
    AllByRecursion IsQuiet calls × AllByRecursion (IsSilent ids calls left) rows
IsSilence ids rows (Some reply) calls left = ⊤

-- each row was silent when it was last looked at: from some call on, no read gave anything, and
-- there was a read from each link
abbrev pub WereSilent : (ids : List Id) → List Row → List Call → (left : Id → List ℕ) → Type 0
WereSilent ids rows calls left =
    (front : List Call) × (last : List Call) × (calls ≡ front ++ last)
    × IsSilence ids rows None last left

-- that the time is up is told only where each row was silent when it was last looked at; or where
-- an earlier timer had run out already when the wait began, which then looks at nothing (expect(1),
-- timeout)
abbrev pub IsLate : Timer → (ids : List Id) → List Row → Reply → List Call →
    (left : Id → List ℕ) → Type 0
IsLate which ids rows said.TimedOut calls left =
    ((which ≡ timer.Running) × AllByRecursion IsNow calls) ⊎ WereSilent ids rows calls left
IsLate which ids rows _ calls left = ⊤

-- these reads of some rows led the system from before to after: what they read from each id, after
-- what was kept, is what the answer hands on and what stays kept; nothing is sent (this project's
-- own)
abbrev pub Sees : {S : Type 0} → (S → Call → S → Type 0) → S → (ids : List Id) → List Row →
    (kept : Id → List ℕ) → Option Reply → (left : Id → List ℕ) → S → Type 0
Sees step before ids rows kept reply left after =
    (calls : List Call) × Made step before calls after
    × Trades kept calls (λ id. []) (handed reply) left × EndsSo reply calls left
    × AllByRecursion IsRead calls × IsSilence ids rows reply calls left

-- the same of calls of several looks, and of the pauses between them
abbrev pub Hears : {S : Type 0} → (S → Call → S → Type 0) → Timer → Option Instant → S →
    (kept : Id → List ℕ) → Option Reply → (left : Id → List ℕ) → S → Type 0
Hears step timer deadline before kept reply left after =
    (calls : List Call) × Made step before calls after
    × Trades kept calls (λ id. []) (handed reply) left × EndsSo reply calls left
    × ((shown : Option ℕ) → Pauses timer deadline shown calls)

-- the same of a whole wait for these rows, whose timer starts first (expect(1), expect)
abbrev pub Waits : {S : Type 0} → (S → Call → S → Type 0) → S → (ids : List Id) → List Row →
    (kept : Id → List ℕ) → Timer → (earlier deadline : Option Instant) → Reply →
    (left : Id → List ℕ) → S → Type 0
Waits step before ids rows kept timer earlier deadline reply left after =
    (calls : List Call) × Made step before calls after
    × Trades kept calls (λ id. []) (handed (Some reply)) left
    × EndsSo (Some reply) calls left × IsDue deadline reply calls
    × Starts timer earlier deadline calls × Pauses timer deadline None calls
    × IsLate timer ids rows reply calls left

-- where nothing came, a wait pauses, or ends as its time is up, or as nothing could ever come
abbrev pub Rests : {S : Type 0} → (S → Call → S → Type 0) → Timer → S → Option Instant →
    Option Reply → S → Type 0
Rests step timer before deadline None after = Paused step timer before deadline after
Rests step timer before deadline (Some said.TimedOut) after = ShowsUp step before deadline after
Rests step timer before deadline (Some said.NoMore) after = ⊤
Rests step timer before deadline (Some _) after = ⊥
