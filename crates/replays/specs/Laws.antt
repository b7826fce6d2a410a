-- What a recorded run that is read as it is replayed has to do with one that was read before.
use Rattle.std.specs.Prelude.{◌≤◌, ℕ, Bool, List, Option, Some, None, length}
use Rattle.acts.specs.Deed.{Deed, Reply}
use Rattle.acts.specs.History.{History, Past}
use Rattle.records.specs.Entry.{AreNotes, Note}
use Rattle.records.specs.Reading.{ReadsOn}
use Rattle.replays.specs.declared.halt.Halt.{Halt}
use Rattle.replays.specs.declared.halt.Halt.TheVariants.{Differs}
use Rattle.replays.specs.Recording.{Recorded}
use Rattle.replays.specs.Reel.{Reeled, Reels}
use Rattle.replays.specs.Replay.{Replays, ReplaysBy}

-- the number of the act that differed, if one did
abbrev pub differs_in : Option Halt → Option ℕ
differs_in (Some (Differs number)) = Some number
differs_in _ = None

-- how far a recorded run was replayed of which these entries are left
abbrev pub recorded : {S : Type 0} → Reeled S → List Note → Recorded
recorded reeled entries = record {
  entries = entries;
  answered = reeled.answered;
  differs = differs_in reeled.halt;
}

-- `gives` says whether a read may give some bytes and lead from one state of a source to another,
-- `up` whether reading may be given up by a read that leads from one state to another, `most` how
-- many bytes the source gives at most; `out` and `err` say whether a put may lead from one state of
-- a writer to another and add these bytes, `out_failed` and `err_failed` whether a writer has
-- failed.
module _ {S O E : Type 0} (gives : S → List ℕ → S → Type 0) (up : S → S → Type 0) (most : S → ℕ)
    (out : O → List ℕ → O → Type 0) (out_failed : O → Bool)
    (err : E → List ℕ → E → Type 0) (err_failed : E → Bool) where
  -- a step of a replay that is read as it goes on, and one of a replay of entries that are there
  abbrev pub Reads : Reeled S × (O × E) → Deed → Reply → Reeled S × (O × E) → Type 0
  Reads = ReplaysBy out out_failed err err_failed (Reels gives up most)

  abbrev pub Has : Recorded × (O × E) → Deed → Reply → Recorded × (O × E) → Type 0
  Has = Replays out out_failed err err_failed

  -- these acts and answers are those of a replay of some entries, no more than were left, whose
  -- lines are what was used of the source
  pub record IsReplayOf (h : History) (first last : Reeled S × (O × E)) : Type 0 where
    pub entries : List Note
    pub rest : List Note
    pub lines : List ℕ
    pub end : S × List ℕ
    pub are : AreNotes entries lines
    pub few : length entries ≤ first.0.left
    pub reads : ReadsOn gives most first.0.place lines end
    pub past : Past Has (recorded first.0 entries, first.1) (recorded last.0 rest, last.1) h

  -- each replay that is read as it goes on is one of the entries that were read
  abbrev pub AreReplays : Type 0
  AreReplays =
      (h : History) (first last : Reeled S × (O × E)) → Past Reads first last h →
      IsReplayOf h first last
