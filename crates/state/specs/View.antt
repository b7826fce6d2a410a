-- How the state of the code corresponds to that of the definition.
use Rattle.std.specs.Prelude.{◌≡◌, ℕ, ◌≤◌, ◌<◌, ◌^◌, List, [], ◌∷◌, map, Option, Some, None, Result, Ok, Err, true}
use Rattle.acts.specs.declared.fault.Fault.{Fault}
use Rattle.acts.specs.declared.id.Id.{Id}
use Rattle.acts.specs.Flaw.{flaw_of, text_of}
use Rattle.choices.specs.Peers.{Peer, FitsPeers, opened}
use Rattle.dialog.specs.Standing.{standing}
use Rattle.choices.specs.Views.{kind_of}
use Rattle.choices.specs.declared.kind.Kind as kinds
use Rattle.state.specs.declared.outcome.Code as codes
use Rattle.state.specs.declared.outcome.Code.TheVariants as code
use Rattle.state.specs.declared.outcome.Stop as halted
use Rattle.state.specs.declared.outcome.Stop.TheVariants as halt
use Rattle.state.specs.declared.outcome.Leave.{Leave}
use Rattle.state.specs.declared.outcome.Leave.TheVariants as leave
use Rattle.state.specs.declared.state.State.{State}
use Rattle.state.specs.Outcome.{Code, Error, Return, Break, Continue, Again, AgainRunning, Stop, Outcome, Gives, Leaves, Stops}
use Rattle.state.specs.Outcome as stop
use Rattle.state.specs.Ids.{Ids, Unreaped, unreaped, without_id}
use Rattle.state.specs.Status.{Status}
use Rattle.state.specs.declared.ids.Ids as coded
use Rattle.state.specs.declared.ids.Unreaped as reapable

-- the return code of the definition that one of the Rattle code stands for (Tcl(n), return codes)
abbrev pub code_of : codes.Code → Code
code_of code.Error = Error
code_of code.Return = Return
code_of code.Break = Break
code_of code.Continue = Continue
code_of code.Again = Again
code_of code.AgainRunning = AgainRunning

-- the stop of the definition that one of the Rattle code stands for
abbrev pub stop_of : halted.Stop → Stop
stop_of (halt.Exit status) = stop.Exit status
stop_of halt.Limit = stop.Limit
stop_of halt.WriterFailed = stop.WriterFailed
stop_of halt.BadAnswer = stop.BadAnswer
stop_of halt.NoMore = stop.NoMore

-- the outcome of the definition that one of the Rattle code stands for
abbrev pub outcome_of : {A : Type 0} → Result (List ℕ) (Leave A) → Outcome
outcome_of (Ok value) = Gives value
outcome_of (Err (leave.Coded code value)) = Leaves (code_of code) value
outcome_of (Err (leave.Stopped stop)) = Stops (stop_of stop)

-- a script's error as an outcome, with its text (Tcl(n), return codes)
abbrev pub raised : {A : Type 0} → Fault A → Outcome
raised fault = Leaves Error (text_of (flaw_of fault))

-- an id that may be waited for, put together from its parts
abbrev pub unreaped_by : Id → kinds.Kind → reapable.Unreaped
unreaped_by i kind = record { id = i; kind = kind }

-- the definition's form of an id that may be waited for, from that of the code
abbrev pub unreaped_of : reapable.Unreaped → Unreaped
unreaped_of u = record { id = u.id; kind = kind_of u.kind }

-- the next number, where one below 2^64 is left
abbrev pub IsNext : Option ℕ → ℕ → Type 0
IsNext (Some n) m = (n ≡ m) × (n < 2 ^ 64)
IsNext None m = 2 ^ 64 ≤ m

-- the ids of the code are those of the definition, with what is set for later ones
pub record FitsIds {A : Type 0} (code : coded.Ids A) (ids : Ids) : Type 0 where
  pub peers : FitsPeers code.table.lines ids.peers
  pub unreaped : map unreaped_of code.unreaped.items ≡ unreaped ids.peers
  pub standing : ids.standing ≡ code.standing
  pub size : ids.size ≡ code.size.bytes
  pub drops_nulls : ids.drops_nulls ≡ code.drops_nulls
  pub next : IsNext code.table.next ids.next

-- no id is there, and nothing is set: buffers hold 2,000 bytes, nulls are removed, and the first
-- number is 4 (expect(1), spawn, match_max and remove_nulls)
abbrev pub no_ids : Ids
no_ids = record {
  peers = [];
  standing = standing [] [];
  size = 2000;
  drops_nulls = true;
  next = 4;
}

-- the open id that was opened first is closed
pub record FirstCloses {A : Type 0} (id : Id) (code : coded.Ids A) (ids : Ids) : Type 0 where
  pub peer : Peer
  pub others : List Peer
  pub split : opened ids.peers ≡ peer ∷ others
  pub same : peer.id ≡ id
  pub rest : opened (without_id id ids).peers ≡ others
  pub fits : FitsIds code (without_id id ids)

-- the state of the code holds what that of the definition says
pub record FitsState {A : Type 0} (state : State A) (s : Status) : Type 0 where
  pub scopes : s.scopes ≡ state.scopes
  pub procedures : s.procedures ≡ state.procs
  pub ids : FitsIds state.ids s.ids
  pub log : s.log ≡ state.log
  pub left : s.left ≡ state.left
