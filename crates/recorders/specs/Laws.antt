-- What holds of the record of a run and of its replay.
use Rattle.std.specs.Prelude.{◌≡◌, ℕ, suc, Bool, false, List, [], ◌∷◌, Option, Some, None, MatchOption, map, take}
use Rattle.acts.specs.Deed.{Deed, Reply}
use Rattle.acts.specs.Deed as said
use Rattle.acts.specs.History.{History, Past}
use Rattle.records.specs.Entry.{AreNotes, IsSecondRecord, second_header}
use Rattle.records.specs.Sink.{Gets, Takes}
use Rattle.recorders.specs.Recorder.{Begins, MayRecord, Records, entries_of}
use Rattle.recorders.specs.RecordFile.{HasGot, Stores, has_failed}
use Rattle.recorders.specs.declared.record_file.RecordFile.{RecordFile}
use Rattle.replays.specs.Recording.{Recorded, whole}
use Rattle.replays.specs.Replay.{Replays}

-- no act follows one that was answered by `NoMore`
abbrev pub EndsAtNoMore : History → Type 0
EndsAtNoMore [] = Unit {0}
EndsAtNoMore (pair ∷ h) = (pair.1 ≡ said.NoMore → h ≡ []) × EndsAtNoMore h

-- the acts of a history
abbrev pub acts_of : History → List Deed
acts_of h = map (λ pair. pair.0) h

-- the answers of a history
abbrev pub answers_of : History → List Reply
answers_of h = map (λ pair. pair.1) h

-- the answers lead two histories alike: where the first n are the same, the first n + 1 acts are,
-- or both are over
abbrev pub AreLedAlike : History → History → Type 0
AreLedAlike h k =
    (n : ℕ) → take n (answers_of h) ≡ take n (answers_of k) →
    take (suc n) (acts_of h) ≡ take (suc n) (acts_of k)

module _ {W S : Type 0} (step : W → Deed → Reply → W → Type 0) (adds : S → List ℕ → S → Type 0)
    (failed : S → Bool) where
  -- steps of a recorder are steps of its world, of which the sink takes the lines
  abbrev pub IsRecorded : Type 0
  IsRecorded =
      (h : History) (first now : W × S) → Past (Records step adds failed) first now h →
      Past step first.0 now.0 h
      × ((lines : List ℕ) × AreNotes (entries_of h) lines
      × Takes adds failed first.1 lines now.1)

  -- a sink that was given the header, and has not failed in the end, got the record of the history
  abbrev pub IsWholeRecord : Type 0
  IsWholeRecord =
      (h : History) (sink : S) (first now : W × S) →
      Takes adds failed sink second_header first.1 →
      Past (Records step adds failed) first now h → failed now.1 ≡ false →
      (text : List ℕ) × IsSecondRecord (entries_of h) text × Gets adds sink text now.1

  -- steps that may be recorded are a recorder's where a record is made, and else the world's
  abbrev pub MayBeRecorded : Type 0
  MayBeRecorded =
      (h : History) (first now : W × Option S) → Past (MayRecord step adds failed) first now h →
      MatchOption first.1 (Past step first.0 now.0 h × (now.1 ≡ None))
      (λ sink. (left : S) × (now.1 ≡ Some left)
      × Past (Records step adds failed) (first.0, sink) (now.0, left) h)

-- `step` as above; `adds` says whether a put may lead from one state of the sink of a record's file
-- to another and add these bytes.
module _ {W S : Type 0} (step : W → Deed → Reply → W → Type 0)
    (adds : S → List ℕ → S → Type 0) where
  -- the file of a record that is begun in it got the record of the history, and nothing else; where
  -- it has failed, it got a beginning of that
  abbrev pub IsFiled : Type 0
  IsFiled =
      (h : History) (empty : RecordFile S) (begun : Option (RecordFile S)) (first last : W)
      (kept : Option (RecordFile S)) →
      empty.gathered.bytes.items ≡ [] → empty.failed ≡ false →
      Begins (Stores adds) has_failed (Some empty) begun →
      Past (MayRecord step (Stores adds) has_failed) (first, begun) (last, kept) h →
      (left : RecordFile S) × (kept ≡ Some left) × (text : List ℕ)
      × IsSecondRecord (entries_of h) text × HasGot adds empty.file text left

module _ {O E : Type 0} (out : O → List ℕ → O → Type 0) (out_failed : O → Bool)
    (err : E → List ℕ → E → Type 0) (err_failed : E → Bool) where
  -- a replay of the entries of a history, by acts that are led as those of the history are, is that
  -- history, and no act differs
  abbrev pub IsReplayed : Type 0
  IsReplayed =
      (h k : History) (first now : Recorded × (O × E)) →
      EndsAtNoMore h → AreLedAlike h k → first.0 ≡ whole (entries_of h) →
      Past (Replays out out_failed err err_failed) first now k →
      (k ≡ h) × (now.0.differs ≡ None)
