-- What holds of recorded runs that are replayed.
use Rattle.std.specs.Prelude.{◌≡◌, ℕ, Bool, false, List, None}
use Rattle.acts.specs.Deed.{Deed, Reply}
use Rattle.engine.specs.Prelude.{Ending, Ran}
use Rattle.records.specs.Entry.{AreEntries, IsSecondRecord, Note, second_header}
use Rattle.records.specs.Sink.{Gets, Takes}
use Rattle.recorders.specs.Recorder.{Records, entries_of}
use Rattle.replays.specs.Recording.{Recorded, whole}
use Rattle.replays.specs.Replay.{Replays}

-- `step` says how a world changes by an act with an answer, `adds`, `out` and `err` whether a write
-- may lead from one state of a sink to another and add these bytes, `failed`, `out_failed` and
-- `err_failed` whether the sink has failed.
module _ {W S O E : Type 0} (step : W → Deed → Reply → W → Type 0)
    (adds : S → List ℕ → S → Type 0) (failed : S → Bool)
    (out : O → List ℕ → O → Type 0) (out_failed : O → Bool)
    (err : E → List ℕ → E → Type 0) (err_failed : E → Bool)
    (script : List ℕ) (args : List (List ℕ)) (ticks : ℕ) where
  -- under these entries each run of the script makes these acts, gets these answers and has this
  -- end, and no wait differs
  abbrev pub Repeats : {first now : W × S} {end : Ending} →
      Ran (Records step adds failed) first now script args ticks end → List Note → Type 0
  Repeats {end = end} ran entries =
      (first last : Recorded × (O × E)) (again : Ending)
      (replay : Ran (Replays out out_failed err err_failed) first last script args ticks again) →
      first.0 ≡ whole entries →
      (replay.history ≡ ran.history) × (again ≡ end) × (last.0.differs ≡ None)

  -- a run in a recorder whose sink has not failed leaves its record, and nothing else, and the
  -- entries that are read from that repeat the run
  abbrev pub AreReplayed : Type 0
  AreReplayed =
      (sink : S) (first now : W × S) (end : Ending)
      (ran : Ran (Records step adds failed) first now script args ticks end) →
      Takes adds failed sink second_header first.1 → failed now.1 ≡ false →
      (text : List ℕ) × IsSecondRecord (entries_of ran.history) text × Gets adds sink text now.1
      × ((entries : List Note) → AreEntries entries text → Repeats ran entries)
