-- What a call of the program does under replay (this project's own).
use Rattle.std.specs.Prelude.{◌≡◌, ◌||◌, ◌⊎◌, if◌then◌else◌, ℕ, Bool, false, List, Option, Result, Vec}
use Rattle.std.specs.Borrow.{Bor}
use Rattle.memory.specs.declared.NoMemory.{NoMemory as Refusal}
use Rattle.acts.specs.Deed.{Deed, Reply}
use Rattle.acts.specs.History.{History}
use Rattle.engine.specs.Prelude.{End}
use Rattle.records.specs.Entry.{AreEntries, Note}
use Rattle.records.specs.Fault.{IsEntriesFault}
use Rattle.records.specs.Sink.{Takes}
use Rattle.records.specs.declared.record.RecordFault.{RecordFault}
use Rattle.recorders.specs.Recorder.{is_lost}
use Rattle.replays.specs.Recording.{whole}
use Rattle.replays.specs.Reel.{Reeled, Reels}
use Rattle.replays.specs.Replay.{Replays, ReplaysBy}
use Rattle.worlds.specs.declared.status.Outcome.{Outcome}
use Rattle.worlds.specs.declared.status.Outcome.TheVariants.{NoMemory}
use Rattle.worlds.specs.Runs.{Runs, RunsRecorded}
use Rattle.worlds.specs.Status.{end_outcome, fault_outcome, line_of, reel_outcome, status_of}

-- `out` and `err` say whether a write may lead from one state of a writer to another and add these
-- bytes, `out_failed` and `err_failed` whether the writer has failed.
module _ {O E : Type 0} (out : O → List ℕ → O → Type 0) (out_failed : O → Bool)
    (err : E → List ℕ → E → Type 0) (err_failed : E → Bool) where
  -- the line of an outcome goes to standard error; the status is the outcome's, or 4 if that fails
  abbrev pub Finishes : Outcome → E → E → ℕ → Type 0
  Finishes outcome before after status =
      Takes err err_failed before (line_of outcome) after
      × (status ≡ (if err_failed after then 4 else status_of outcome))

  -- nothing runs: standard output stays as it is, and the outcome's line is all that is written
  abbrev pub Declines : Outcome → O × E → O × E → ℕ → Type 0
  Declines outcome before after status =
      (after.0 ≡ before.0) × Finishes outcome before.1 after.1 status

  -- memory was refused before anything ran
  abbrev pub Starves : O × E → O × E → ℕ → Type 0
  Starves before after status =
      (refusal : Refusal) × Declines (NoMemory refusal) before after status

  -- the record of this name and text is refused
  abbrev pub Refuses : Bor (List ℕ) → List ℕ → O × E → O × E → ℕ → Type 0
  Refuses name text before after status =
      (fault : RecordFault) × IsEntriesFault text fault
      × Declines (fault_outcome name fault) before after status

  -- `heard` says whether acts and answers may be what who watches was told
  module _ (heard : History → Type 0) {A : Type 0} (script : List ℕ) (args : List (Vec ℕ A))
      (ticks : ℕ) where
    -- the script runs in a world with these steps, whose state is `begun` at first, and then the
    -- line of its end goes to standard error; losing the record of the run, where one was made,
    -- counts as a writer that failed
    abbrev pub PlaysBy : {R : Type 0} → (R × (O × E) → Deed → Reply → R × (O × E) → Type 0) →
        (Bool → R → Result (End A) Refusal → Outcome) → Bool → R → O × E → O × E → ℕ → Type 0
    PlaysBy {R} Step outcome lost begun before after status =
        (left : R) × (told : E) × (ended : Result (End A) Refusal)
        × Runs Step heard script args ticks (begun, before) (left, (after.0, told)) ended
        × Finishes (outcome (lost || (out_failed after.0 || err_failed told)) left ended)
        told after.1 status

    -- the script runs under these entries
    abbrev pub Plays : Bool → List Note → O × E → O × E → ℕ → Type 0
    Plays lost entries =
        PlaysBy (Replays out out_failed err err_failed)
        (λ failed left. end_outcome failed left.differs) lost (whole entries)

    -- the text of a record is refused, or the script runs under its entries
    abbrev pub Replayed : Bor (List ℕ) → List ℕ → O × E → O × E → ℕ → Type 0
    Replayed name text before after status =
        Refuses name text before after status
        ⊎ ((entries : List Note) × AreEntries entries text
        × Plays false entries before after status)

    -- `gives` says whether a read may give some bytes and lead from one state of a source to
    -- another, `up` whether reading may be given up by a read that leads from one state to another,
    -- `most` how many bytes the source gives at most.
    module _ {F : Type 0} (gives : F → List ℕ → F → Type 0) (up : F → F → Type 0)
        (most : F → ℕ) where
      -- the script runs under what is read of the record of this name as the run goes on
      abbrev pub PlaysOn : Bor (List ℕ) → Bool → Reeled F → O × E → O × E → ℕ → Type 0
      PlaysOn name =
          PlaysBy (ReplaysBy out out_failed err err_failed (Reels gives up most))
          (λ failed left. reel_outcome failed name left.halt)

    module _ {S : Type 0} (adds : S → List ℕ → S → Type 0) (failed : S → Bool) where
      -- the same, where a record of the run is made if there is a sink for it
      abbrev pub PlaysRecordedBy : {R : Type 0} →
          (R × (O × E) → Deed → Reply → R × (O × E) → Type 0) →
          (Bool → R → Result (End A) Refusal → Outcome) →
          R → O × E → Option S → O × E → Option S → ℕ → Type 0
      PlaysRecordedBy {R} Step outcome begun before empty after kept status =
          (left : R) × (told : E) × (ended : Result (End A) Refusal)
          × RunsRecorded Step adds failed heard script args ticks (begun, before) empty
          (left, (after.0, told)) kept ended
          × Finishes (outcome (is_lost failed kept || (out_failed after.0 || err_failed told))
          left ended) told after.1 status

      abbrev pub PlaysRecorded : List Note → O × E → Option S → O × E → Option S → ℕ → Type 0
      PlaysRecorded entries =
          PlaysRecordedBy (Replays out out_failed err err_failed)
          (λ failed left. end_outcome failed left.differs) (whole entries)

      module _ {F : Type 0} (gives : F → List ℕ → F → Type 0) (up : F → F → Type 0)
          (most : F → ℕ) where
        abbrev pub PlaysRecordedOn : Bor (List ℕ) → Reeled F → O × E → Option S → O × E →
            Option S → ℕ → Type 0
        PlaysRecordedOn name =
            PlaysRecordedBy (ReplaysBy out out_failed err err_failed (Reels gives up most))
            (λ failed left. reel_outcome failed name left.halt)
