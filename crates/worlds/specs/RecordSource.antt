-- Records that are read from their files as the run goes on (this project's own).
use Rattle.std.specs.Prelude.{◌≡◌, ◌⊎◌, ℕ, List, [], Option, Result, Ok}
use Rattle.std.specs.Io.KnownBytes.{Consumes, IsAtEnd}
use Rattle.std.specs.declared.io.Error.{Error}
use Rattle.records.specs.Entry.{second_header}
use Rattle.records.specs.Reading.{GivesRecord, ReadsOn}
use Rattle.replays.specs.Reel.{Reeled, begun}
use Rattle.worlds.specs.Reads.{GivesUp}
use Rattle.worlds.specs.declared.record_source.FileSource.{FileSource}

-- `left` says which bytes a file has left to read, where they are known.
module _ {F : Type 0} (left : F → Option (List ℕ)) where
  -- a read gave these bytes, the next ones of the file, and none only at its end
  abbrev pub Gives : FileSource F → List ℕ → FileSource F → Type 0
  Gives before bytes after =
      Consumes (left before.file) (left after.file) bytes × (bytes ≡ [] → IsAtEnd (left after.file))

-- a read of the file failed, or all was asked for that may be; `reads` says whether a read may give
-- an answer and lead from one state of the file to another
abbrev pub GivesUpIn : {F : Type 0} → (reads : F → Result ℕ Error → F → Type 0) → FileSource F →
    FileSource F → Type 0
GivesUpIn reads before after = GivesUp reads before.file after.file ⊎ (after.left ≡ 0)

-- `left` as above, and `opens` says what the system may answer where the file of a name is to be
-- read.
module _ {F : Type 0} (left : F → Option (List ℕ))
    (opens : List ℕ → Result F Error → Type 0) where
  -- the file of this name was opened and read to its end, and is a record of so many entries
  abbrev pub IsRecordFile : (name : List ℕ) → (count : ℕ) → Type 0
  IsRecordFile name count =
      (first last : FileSource F) × opens name (Ok first.file)
      × GivesRecord (Gives left) count first last

  -- the recorded run of the file of this name, which is a record: it was opened once more, and
  -- its header was read
  abbrev pub IsReelOf : (name : List ℕ) → Reeled (FileSource F) → Type 0
  IsReelOf name reeled =
      (count : ℕ) × IsRecordFile name count
      × ((again : FileSource F) × (place : FileSource F × List ℕ) × opens name (Ok again.file)
      × ReadsOn (Gives left) (λ source. source.left) (again, []) second_header place
      × (reeled ≡ begun place count))
