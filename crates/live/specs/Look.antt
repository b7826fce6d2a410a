-- What one look at a link finds.
use Rattle.std.specs.Prelude.{◌≡◌, ◌≢◌, ◌⊎◌, ℕ, ◌≤◌, ◌<◌, ◌++◌, List, [], ◌∷◌, map, take, length, ⊤}
use Rattle.std.specs.List.{AllByRecursion}
use Rattle.std.specs.declared.io.ErrorKind.TheVariants.{Interrupted, WouldBlock}
use Rattle.acts.specs.declared.id.Id.{Id}
use Rattle.live.specs.Calls.{Call, Got}
use Rattle.live.specs.Calls as call
use Rattle.live.specs.declared.link.Look.{Look}
use Rattle.live.specs.declared.link.Look.TheVariants.{Bytes, Silence, End}

-- it found no more bytes than there was room for (read(2))
abbrev pub IsWithin : Look → ℕ → Type 0
IsWithin (Bytes count) room = count ≤ room
IsWithin Silence room = ⊤
IsWithin End room = ⊤

-- a read found nothing yet: it would have waited, or was interrupted (read(2), EAGAIN and EINTR)
abbrev pub IsNothing : Got → Type 0
IsNothing (call.Gave bytes) = ⊥
IsNothing (call.Failed kind) = (kind ≡ Interrupted) ⊎ (kind ≡ WouldBlock)

-- a read found the end: it gave no bytes, or the connection is broken (read(2))
abbrev pub IsEnd : Got → Type 0
IsEnd (call.Gave bytes) = bytes ≡ []
IsEnd (call.Failed kind) = (kind ≢ Interrupted) × (kind ≢ WouldBlock)

-- a look gives the bytes of the last read, or its end; it finds silence where no read found more
-- than nothing, or where there was no room, and nothing is read (this project's own)
abbrev pub Finds : List Got → Look → List ℕ → Type 0
Finds gots (Bytes count) room =
    (tries : List Got) × AllByRecursion IsNothing tries
    × (gots ≡ tries ++ call.Gave (take count room) ∷ [])
Finds gots End room =
    (tries : List Got) × (last : Got) × AllByRecursion IsNothing tries
    × IsEnd last × (gots ≡ tries ++ last ∷ [])
Finds gots Silence room =
    AllByRecursion IsNothing gots × (0 < length room → gots ≢ [])

-- these calls are reads from the link of an id by which a look found this, and led from before to
-- after (this project's own)
abbrev pub Looks : {S : Type 0} → (S → Call → S → Type 0) → Id → S → Look → List ℕ → S → Type 0
Looks step id before found room after =
    (gots : List Got) × call.Made step before (map (call.Read id) gots) after
    × Finds gots found room

-- the bytes that a look found
abbrev pub found_bytes : Look → List ℕ → List ℕ
found_bytes (Bytes count) room = take count room
found_bytes Silence room = []
found_bytes End room = []
