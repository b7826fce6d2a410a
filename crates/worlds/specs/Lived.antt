-- What a call of the program does in the live world (this project's own).
use Rattle.std.specs.Prelude.{ℕ, Bool, List, Option, None, Result, Vec}
use Rattle.memory.specs.declared.NoMemory.{NoMemory as Refusal}
use Rattle.acts.specs.Deed.{Deed, Reply}
use Rattle.acts.specs.History.{History}
use Rattle.acts.specs.declared.id.Id.{Id}
use Rattle.engine.specs.Prelude.{End}
use Rattle.live.specs.Calls.{Call}
use Rattle.live.specs.Live.{Lives, Logs, Programs, Works}
use Rattle.live.specs.declared.peers.Peers.{Peers}
use Rattle.live.specs.Outputs.{err_text, out_text}
use Rattle.records.specs.Sink.{Gets}
use Rattle.recorders.specs.Recorder.{is_lost}
use Rattle.worlds.specs.Play.{Finishes}
use Rattle.worlds.specs.Runs.{Runs, RunsRecorded}
use Rattle.worlds.specs.Status.{end_outcome}

-- a live world without its two writers: its system, the log that is open, the links that are open,
-- and the programs that were started and not waited for
pub record Open (Y L P F : Type 0) : Type 0 where
  pub system : Y
  pub log : Option F
  pub peers : Peers L
  pub programs : List P

-- the same, by its parts
abbrev pub open_in : {Y L P F : Type 0} → Y → Option F → Peers L → List P → Open Y L P F
open_in system log peers programs = record {
  system = system;
  log = log;
  peers = peers;
  programs = programs;
}

-- `out` and `err` say whether a write may lead from one state of a writer to another and add these
-- bytes.
module _ {O E : Type 0} (out : O → List ℕ → O → Type 0) (err : E → List ℕ → E → Type 0) where
  -- a step of the live world, of which the two writers are seen: each gets what goes out to it
  abbrev pub Steps : O × E → Deed → Reply → O × E → Type 0
  Steps before act reply after =
      Lives act reply × Gets out before.0 (out_text act reply) after.0
      × Gets err before.1 (err_text act reply) after.1

  -- what an open log holds, what the files of the system hold, whose a program is, what a call may
  -- do, and whose a link is
  module _ {Y L P F : Type 0} (contents : F → Option (List ℕ))
      (holds : Y → List ℕ → Option (List ℕ)) (whose : P → Id) (step : Y → Call → Y → Type 0)
      (owner : L → Id) where
    -- the same, with what is open in the world, and with the calls of its system that led there
    abbrev pub Acts : Open Y L P F × (O × E) → Deed → Reply → Open Y L P F × (O × E) → Type 0
    Acts before act reply after =
        Steps before.1 act reply after.1
        × Logs contents holds act reply before.0.system before.0.log after.0.log
        × Programs whose act reply before.0.programs after.0.programs
        × Works step owner act reply before.0.system after.0.system before.0.peers after.0.peers

-- `out` and `err` as above; `out_failed` and `err_failed` say whether the writer has failed, and
-- `heard` whether acts and answers may be what who watches was told.
module _ {O E : Type 0} (out : O → List ℕ → O → Type 0) (out_failed : O → Bool)
    (err : E → List ℕ → E → Type 0) (err_failed : E → Bool) (heard : History → Type 0)
    {A : Type 0} (script : List ℕ) (args : List (Vec ℕ A)) (ticks : ℕ) where
  -- the script runs in the live world, and then the line of its end goes to standard error; losing
  -- the record of the run, where one was made, counts as a writer that failed
  abbrev pub Lived : Bool → O × E → O × E → ℕ → Type 0
  Lived lost before after status =
      (told : E) × (ended : Result (End A) Refusal)
      × Runs (Steps out err) heard script args ticks before (after.0, told) ended
      × Finishes out out_failed err err_failed (end_outcome lost None ended) told after.1 status

  module _ {S : Type 0} (adds : S → List ℕ → S → Type 0) (failed : S → Bool) where
    -- the same, where a record of the run is made if there is a sink for it
    abbrev pub LivedRecorded : O × E → Option S → O × E → Option S → ℕ → Type 0
    LivedRecorded before empty after kept status =
        (told : E) × (ended : Result (End A) Refusal)
        × RunsRecorded (Steps out err) adds failed heard script args ticks before empty
        (after.0, told) kept ended
        × Finishes out out_failed err err_failed (end_outcome (is_lost failed kept) None ended)
        told after.1 status
