-- The steps of the live world.
use Rattle.std.specs.Prelude.{◌≡◌, ◌==◌, ◌++◌, ◌∷◌, ℕ, ℤ, pos, nat_le, if◌then◌else◌, true, not, map, List, [], Option, Some, None, filter, IsSome, IsSomeAnd, ⊤}
use Rattle.std.specs.Io.KnownBytes.{Appends}
use Rattle.std.specs.declared.io.Error.{Error}
use Rattle.acts.specs.declared.id.Id.{Id}
use Rattle.acts.specs.Deed.{Deed, Reply}
use Rattle.acts.specs.Deed as said
use Rattle.acts.specs.Fits.{fits}
use Rattle.live.specs.Arriving.{Waits, is_wanted}
use Rattle.live.specs.Calls.{Call}
use Rattle.live.specs.Calls as call
use Rattle.live.specs.Early.{IfAnswered}
use Rattle.live.specs.Kept.{Traded, ids_of, kept_of, only}
use Rattle.live.specs.Outputs.{IsOpened, went_out}
use Rattle.live.specs.Refusing.{IsRefusal, StartStops, StopsShort}
use Rattle.live.specs.Turns.{KeepsTurns}
use Rattle.live.specs.declared.peers.Peer.{Peer}
use Rattle.live.specs.declared.peers.Peers.{Peers}

-- a wait gives no more bytes than are wanted
abbrev pub IsWanted : Deed → Reply → Type 0
IsWanted (said.Wait rows timer) reply = is_wanted rows reply ≡ true
IsWanted _ reply = ⊤

-- each answer fits its act, and no more bytes come than are wanted (this project's own)
abbrev pub Lives : Deed → Reply → Type 0
Lives act reply = (fits act reply ≡ true) × IsWanted act reply

-- what is known of why an act was refused, before it and after: where it was refused, the system's
-- error says why; where it was neither refused nor failed, nothing is learned (this project's own)
abbrev pub IsWhy : Reply → (before after : Option Error) → Type 0
IsWhy said.Refused before after = IsSome after
IsWhy (said.Failed sent) before after = ⊤
IsWhy said.NoMore before after = ⊤
IsWhy _ before after = after ≡ before

-- the log gets what is written to it; one that is opened keeps what its file holds, or is begun
-- anew, and takes the place of the one before; where none is open, no bytes go out; `contents` says
-- what an open file holds, and `holds` what the files of the system hold (expect(1), log_file)
abbrev pub Logs : {S F : Type 0} → (F → Option (List ℕ)) → (S → List ℕ → Option (List ℕ)) →
    Deed → Reply → S → (before after : Option F) → Type 0
Logs contents holds (said.Log text) reply system (Some file) after =
    IsSomeAnd after (λ new. Appends (contents file) (contents new) (went_out text reply))
Logs contents holds (said.Log text) reply system None after =
    (reply ≡ said.Failed 0) × (after ≡ None)
Logs contents holds (said.OpenLog name mode) said.Done system before after =
    IsSomeAnd after (λ file. IsOpened (holds system name) mode (contents file))
Logs contents holds said.CloseLog reply system before after = after ≡ None
Logs contents holds _ reply system before after = after ≡ before

-- the calls that name a program and its arguments, in order (execve(2))
abbrev pub IsNamed : {S : Type 0} → (S → Call → S → Type 0) → S → (words : List (List ℕ)) → S →
    Type 0
IsNamed step before [] after = ⊥
IsNamed step before (name ∷ args) after =
    call.Made step before (call.Command name ∷ map call.Arg args) after

-- the calls by which a program of these words is started under an id, as the process of this number
-- (expect(1), spawn)
abbrev pub IsStart : {S : Type 0} → (S → Call → S → Type 0) → S → Id → (words : List (List ℕ)) →
    (pid : ℕ) → S → Type 0
IsStart {S} step before id words pid after =
    (named : S) × IsNamed step before words named
    × call.Made step named (call.Pipes id ∷ call.Poll id ∷ call.Start id pid ∷ []) after

-- a link of this id is open, after the others in the table, and nothing has come from it
abbrev pub Opens : {L : Type 0} → (L → Id) → Id → (before after : Peers L) → Type 0
Opens {L} owner id before after =
    (after.deadline ≡ before.deadline) × (after.last ≡ before.last)
    × ((peer : Peer L) × (owner peer.link ≡ id) × (peer.early.items ≡ [])
    × (after.list.items ≡ before.list.items ++ peer ∷ []))

-- the status of an exit, none after a signal (wait(2), WEXITSTATUS)
abbrev pub exit_status : Option ℤ → Option ℕ
exit_status (Some (pos status)) = if nat_le status 255 then Some status else None
exit_status _ = None

-- a program of this id stands after the others
abbrev pub AddsProgram : {P : Type 0} → (P → Id) → Id → (before after : List P) → Type 0
AddsProgram {P} whose id before after =
    (program : P) × (whose program ≡ id) × (after ≡ before ++ program ∷ [])

-- one program of this id is gone, and the others stay in their order
abbrev pub LosesProgram : {P : Type 0} → (P → Id) → Id → (before after : List P) → Type 0
LosesProgram {P} whose id before after =
    (front : List P) × (program : P) × (rest : List P) × ((whose program).0 ≡ id.0)
    × (before ≡ front ++ program ∷ rest) × (after ≡ front ++ rest)

-- the programs that were started and not waited for; `whose` says under which id (wait(2))
abbrev pub Programs : {P : Type 0} → (P → Id) → Deed → Reply → (before after : List P) → Type 0
Programs whose (said.Spawn id words) (said.Started pid) before after =
    AddsProgram whose id before after
Programs whose (said.Reap id) (said.Exited status) before after =
    LosesProgram whose id before after
Programs whose (said.Reap id) reply before after = ⊤
Programs whose act reply before after = after ≡ before

-- what an act with this answer does to the links that are open, and by which calls of the system;
-- `step` says what a call may do, and `owner` whose a link is (this project's own)
abbrev pub Works : {S L : Type 0} → (S → Call → S → Type 0) → (L → Id) → Deed → Reply →
    (a b : S) → (before after : Peers L) → Type 0
Works step owner (said.Send id text) reply a b before after =
    (after.deadline ≡ before.deadline) × (after.last ≡ before.last)
    × (ids_of owner after.list.items ≡ ids_of owner before.list.items)
    × IfAnswered reply (Traded step a (kept_of owner before.list.items)
    (only id (went_out text reply)) (λ other. []) (kept_of owner after.list.items) b)
Works step owner (said.Wait rows timer) reply a b before after =
    (ids_of owner after.list.items ≡ ids_of owner before.list.items)
    × IfAnswered reply (Waits step a (ids_of owner before.list.items) rows
    (kept_of owner before.list.items) timer before.deadline after.deadline reply
    (kept_of owner after.list.items) b
    × KeepsTurns step a (ids_of owner before.list.items) rows before.last after.last reply
    (kept_of owner after.list.items) b)
Works step owner (said.Sleep seconds) reply a b before after =
    step a (call.Sleep seconds) b × (after ≡ before)
Works step owner (said.Close id) reply a b before after =
    (b ≡ a) × (after.deadline ≡ before.deadline) × (after.last ≡ before.last)
    × (after.list.items ≡ filter (λ peer. not ((owner peer.link).0 == id.0)) before.list.items)
Works step owner (said.Spawn id words) (said.Started pid) a b before after =
    Opens owner id before after × IsStart step a id words pid b
Works step owner (said.Spawn id words) reply a b before after =
    (after.deadline ≡ before.deadline) × (after.last ≡ before.last)
    × (after.list.items ≡ before.list.items)
    × ((error : Error) × IsRefusal error reply × StartStops step a id words error b)
Works step owner (said.Connect id host port) said.Done a b before after =
    Opens owner id before after
    × call.Made step a (call.Connect id host port ∷ call.Poll id ∷ []) b
Works step owner (said.Connect id host port) reply a b before after =
    (after.deadline ≡ before.deadline) × (after.last ≡ before.last)
    × (after.list.items ≡ before.list.items)
    × ((error : Error) × IsRefusal error reply
    × StopsShort step a (call.Connect id host port ∷ call.Poll id ∷ []) error b)
Works step owner (said.OpenLog name mode) said.Done a b before after =
    step a (call.OpenLog name mode) b × (after ≡ before)
Works step owner (said.OpenLog name mode) reply a b before after =
    (after ≡ before) × ((error : Error) × IsRefusal error reply
    × StopsShort step a (call.OpenLog name mode ∷ []) error b)
Works step owner (said.Reap id) (said.Exited status) a b before after =
    ((code : Option ℤ) × step a (call.Wait id code) b × (status ≡ exit_status code))
    × (after ≡ before)
Works step owner (said.Reap id) _ a b before after = after ≡ before
Works step owner _ reply a b before after = (b ≡ a) × (after ≡ before)
