-- What is kept of the bytes that come while something is sent.
use Rattle.std.specs.Prelude.{◌≡◌, ◌≢◌, ◌+◌, ◌*◌, ◌-◌, ◌++◌, ℕ, min, List, [], ◌∷◌, length, take, Result, Ok, Err, ⊤}
use Rattle.std.specs.List.{AllByRecursion}
use Rattle.std.specs.IoError.{error_kind}
use Rattle.std.specs.declared.io.Error.{Error}
use Rattle.std.specs.declared.io.ErrorKind.TheVariants.{OutOfMemory}
use Rattle.acts.specs.declared.id.Id.{Id}
use Rattle.acts.specs.Deed.{Reply}
use Rattle.acts.specs.Deed as said
use Rattle.live.specs.Calls.{Call, Made, heard, heard_by, sent, sent_by}
use Rattle.live.specs.Look.{Looks}
use Rattle.live.specs.declared.link.Look.{Look}
use Rattle.live.specs.declared.link.Look.TheVariants.{Bytes, Silence, End}

-- the most bytes that are kept for an id while a text of this size is sent: as many as a match
-- buffer may hold, and two for each byte of the text (this project's own)
abbrev pub most_early : ℕ → ℕ
most_early size = 1000000 + 2 * size

-- how many more bytes are kept beside these while a text of this size is sent; a count has 64 bits
-- (this project's own)
abbrev pub early_room : ℕ → List ℕ → ℕ
early_room size kept = min (most_early size) 18446744073709551615 - length kept

-- bytes that were kept come first, and those of them that do not come now stay kept: while any are
-- kept, no others come (this project's own)
abbrev pub HandsOn : (kept rest : List ℕ) → Look → List ℕ → Type 0
HandsOn [] rest found room = rest ≡ []
HandsOn (byte ∷ kept) rest (Bytes count) room = byte ∷ kept ≡ take count room ++ rest
HandsOn (byte ∷ kept) rest Silence room = byte ∷ kept ≡ rest
HandsOn (byte ∷ kept) rest End room = ⊥

-- while any bytes are kept nothing is read, and else a look finds what comes (this project's own)
abbrev pub LooksEarly : {S : Type 0} → (S → Call → S → Type 0) → Id → (kept : List ℕ) →
    S → Look → List ℕ → S → Type 0
LooksEarly step id [] before found room after = Looks step id before found room after
LooksEarly step id (byte ∷ kept) before found room after = before ≡ after

-- a look into a room of this many bytes found this (this project's own)
abbrev pub LooksInto : {S : Type 0} → (S → Call → S → Type 0) → Id → (size : ℕ) → S → Look → S →
    Type 0
LooksInto step id size before found after =
    (room : List ℕ) × (length room ≡ size) × Looks step id before found room after

-- a call that reads from no link and writes to none
abbrev pub IsIdle : Call → Type 0
IsIdle call = (id : Id) → (heard_by id call ≡ []) × (sent_by id call ≡ [])

-- calls that read from no link and write to none led the system from before to after
abbrev pub Idles : {S : Type 0} → (S → Call → S → Type 0) → S → S → Type 0
Idles step before after =
    (calls : List Call) × Made step before calls after × AllByRecursion IsIdle calls

-- this holds where memory was not refused
abbrev pub UnlessMemory : {A : Type 0} → Result A Error → Type 0 → Type 0
UnlessMemory (Ok answer) P = P
UnlessMemory (Err error) P = error_kind error ≢ OutOfMemory → P

-- by these calls the link of an id took this text; of what was kept and what was then heard from it
-- a front is handed on, and the rest is kept; no other link was read from or written to (this
-- project's own)
pub record Exchanges (id : Id) (kept : List ℕ) (calls : List Call) (text handed left : List ℕ) :
    Type 0 where
  pub own : kept ++ heard id calls ≡ handed ++ left
  pub out : sent id calls ≡ text
  pub elsewhere : (other : Id) → other.0 ≢ id.0 → (heard other calls ≡ []) × (sent other calls ≡ [])

-- some calls with this effect led the system from before to after
abbrev pub Exchanged : {S : Type 0} → (S → Call → S → Type 0) → Id → S →
    (kept text handed left : List ℕ) → S → Type 0
Exchanged step id before kept text handed left after =
    (calls : List Call) × Made step before calls after × Exchanges id kept calls text handed left

-- this holds unless there are no more answers
abbrev pub IfAnswered : Reply → Type 0 → Type 0
IfAnswered said.NoMore P = ⊤
IfAnswered _ P = P
