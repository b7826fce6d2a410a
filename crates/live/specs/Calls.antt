-- The calls of the system that the live world makes, and their answers.
use Rattle.std.specs.Prelude.{◌≡◌, ◌==◌, ℕ, ℤ, Bool, false, List, [], ◌∷◌, Option, Result, Ok, Err, take, flat_map, if◌then◌else◌}
use Rattle.std.specs.List.{list_any}
use Rattle.std.specs.IoError.{error_kind}
use Rattle.std.specs.declared.io.Error.{Error}
use Rattle.std.specs.declared.io.ErrorKind.{ErrorKind}
use Rattle.acts.specs.declared.id.Id.{Id}
use Rattle.acts.specs.declared.act.LogMode.{LogMode}

-- what a read gave: bytes, none of them at the end, or an error of this kind (read(2))
pub data Got : Type 0 where
  Gave : (bytes : List ℕ) → Got
  Failed : (kind : ErrorKind) → Got

-- a call of the system, with what it was asked and what it answered
pub data Call : Type 0 where
  -- a read from the link of an id, and a write to it, which took these bytes (read(2), write(2))
  Read : (id : Id) (got : Got) → Call
  Write : (id : Id) (bytes : List ℕ) → Call
  -- a program is named, gets an argument and the pipes of an id, and is started under that id, as
  -- the process of this number (execve(2), pipe(2))
  Command : (name : List ℕ) → Call
  Arg : (word : List ℕ) → Call
  Pipes : (id : Id) → Call
  Start : (id : Id) (pid : ℕ) → Call
  -- the program of an id has ended with this status, none after a signal (wait(2))
  Wait : (id : Id) (code : Option ℤ) → Call
  -- a connection to a port of a host under an id (connect(2))
  Connect : (id : Id) (host : List ℕ) (port : ℕ) → Call
  -- a log file is opened (open(2))
  OpenLog : (name : List ℕ) (mode : LogMode) → Call
  -- what the clock shows, in nanoseconds (clock_gettime(2))
  Now : (nanos : ℕ) → Call
  -- a pause of as many nanoseconds at most, or without an end, and a sleep (poll(2), sleep(3))
  Pause : (nanos : Option ℕ) → Call
  Sleep : (seconds : ℕ) → Call
  -- the poll is told of a link or asked about it, which reads and writes nothing (poll(2))
  Poll : (id : Id) → Call
  -- a call that the system refused by an error of this kind (errno(3))
  Refused : (kind : ErrorKind) → Call

-- a call that is known by its answer, or that was refused
abbrev pub told : {A : Type 0} → Result A Error → (A → Call) → Call
told (Ok answer) call = call answer
told (Err error) call = Refused (error_kind error)

-- what a read into this room gave (read(2))
abbrev pub got : Result ℕ Error → List ℕ → Got
got (Ok count) room = Gave (take count room)
got (Err error) room = Failed (error_kind error)

-- what a write took from the front of a text (write(2))
abbrev pub took : Result ℕ Error → List ℕ → List ℕ
took (Ok count) text = take count text
took (Err error) text = []

-- these calls, one after the other, led the system from before to after; `step` says whether a call
-- may do so (this project's own)
abbrev pub Made : {S : Type 0} → (S → Call → S → Type 0) → S → List Call → S → Type 0
Made step before [] after = before ≡ after
Made step before (call ∷ calls) after = (mid : _) × step before call mid × Made step mid calls after

-- the bytes that a read gave
abbrev pub bytes_of : Got → List ℕ
bytes_of (Gave bytes) = bytes
bytes_of (Failed kind) = []

-- the bytes that a call read from the link of an id
abbrev pub heard_by : Id → Call → List ℕ
heard_by id (Read from found) = if from.0 == id.0 then bytes_of found else []
heard_by id _ = []

-- the bytes that a call wrote to the link of an id
abbrev pub sent_by : Id → Call → List ℕ
sent_by id (Write to bytes) = if to.0 == id.0 then bytes else []
sent_by id _ = []

-- all bytes that these calls read from the link of an id, in order
abbrev pub heard : Id → List Call → List ℕ
heard id calls = flat_map (heard_by id) calls

-- all bytes that these calls wrote to the link of an id, in order
abbrev pub sent : Id → List Call → List ℕ
sent id calls = flat_map (sent_by id) calls

-- whether a call read from the link of an id
abbrev pub reads_from : Id → Call → Bool
reads_from id (Read from found) = from.0 == id.0
reads_from id _ = false

-- whether one of these calls read from the link of an id
abbrev pub is_read : Id → List Call → Bool
is_read id calls = list_any (reads_from id) calls
