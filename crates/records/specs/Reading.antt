-- What is read of a source, entry by entry.
use Rattle.std.specs.Prelude.{◌≡◌, true, false, ◌+◌, ◌-◌, ◌≤◌, ℕ, List, [], ◌++◌, drop, length, take}
use Rattle.records.specs.declared.ahead.Ahead.{Ahead}
use Rattle.records.specs.declared.reader.ReadFault.{ReadFault}
use Rattle.records.specs.declared.reader.EntryReader.{EntryReader}
use Rattle.records.specs.declared.reader.ReadFault.TheVariants.{GivenUp, Unfit}
use Rattle.records.specs.declared.record.RecordFault.TheVariants as fault
use Rattle.records.specs.Entry.{AreEntries, AreNotes, IsBadLine, Note}
use Rattle.records.specs.Fault.{IsNoteFault, IsNotesFault, IsRefused}
use Rattle.records.specs.Sink.{Gets}

-- the bytes that were read and not used yet
abbrev pub unused : {A : Type 0} → Ahead A → List ℕ
unused ahead = take (ahead.end - ahead.start) (drop ahead.start ahead.block.items)

-- a reader's source, and what was read and not used yet
abbrev pub place_of : {A S : Type 0} → EntryReader A S → S × List ℕ
place_of reader = (reader.source, unused reader.ahead)

-- a reader of which nothing was read yet
abbrev pub IsFresh : {A S : Type 0} → EntryReader A S → Type 0
IsFresh reader = (unused reader.ahead ≡ []) × (reader.ended ≡ false)

-- `gives` says whether a read may give some bytes and lead from one state of a source to another.
module _ {S : Type 0} (gives : S → List ℕ → S → Type 0) where
  -- a source is at its end: the last read of it gave nothing
  abbrev pub IsAtEnd : S → Type 0
  IsAtEnd source = (before : S) × gives before [] source

  -- where a reader takes its source to be at its end, it is
  abbrev pub KnowsEnd : {A : Type 0} → EntryReader A S → Type 0
  KnowsEnd reader = reader.ended ≡ true → IsAtEnd reader.source

-- `gives` as above, `most` says how many bytes the source gives at most.
module _ {S : Type 0} (gives : S → List ℕ → S → Type 0) (most : S → ℕ) where
  -- what was there and what was read of the source, joined, is what was used and what is there now
  abbrev pub ReadsOn : S × List ℕ → List ℕ → S × List ℕ → Type 0
  ReadsOn before used after =
      (read : List ℕ) × Gets gives before.0 read after.0 × (before.1 ++ read ≡ used ++ after.1)
      × (length read + most after.0 ≤ most before.0)

  -- what is there and what is read, up to the end, are the lines of so many entries
  abbrev pub AreAll : ℕ → S × List ℕ → S × List ℕ → Type 0
  AreAll count before after =
      (notes : List Note) × (lines : List ℕ) × AreNotes notes lines × (length notes ≡ count)
      × ReadsOn before lines after × (after.1 ≡ []) × IsAtEnd gives after.0

-- what is read, up to the end, is a record of so many entries
abbrev pub GivesRecord : {S : Type 0} → (S → List ℕ → S → Type 0) → ℕ → S → S → Type 0
GivesRecord gives count before after =
    (notes : List Note) × (text : List ℕ) × Gets gives before text after × AreEntries notes text
    × (length notes ≡ count) × IsAtEnd gives after

-- `gives` as above; `up` says whether reading may be given up by a read that leads from one state
-- to another.
module _ {S : Type 0} (gives : S → List ℕ → S → Type 0) (up : S → S → Type 0) where
  -- reading was given up, after some bytes were read
  abbrev pub IsGivenUp : S → S → Type 0
  IsGivenUp before after =
      (read : List ℕ) × (mid : S) × Gets gives before read mid × up mid after

  -- memory was refused, or reading was given up
  abbrev pub IsBroken : S → S → ReadFault → Type 0
  IsBroken before after (Unfit found) = IsRefused found
  IsBroken before after GivenUp = IsGivenUp before after

  -- what is read has a first bad line; or memory was refused, or reading was given up
  abbrev pub GivesFault : S → S → ReadFault → Type 0
  GivesFault before after (Unfit (fault.Line n)) =
      (text : List ℕ) × Gets gives before text after × IsBadLine text n
  GivesFault before after found = IsBroken before after found

  module _ (most : S → ℕ) where
    -- no entry begins in what is there, at the line of this number; or memory was refused, or
    -- reading was given up
    abbrev pub IsStopped : ℕ → S × List ℕ → S × List ℕ → ReadFault → Type 0
    IsStopped line before after (Unfit (fault.Line n)) =
        ReadsOn gives most before [] after × IsNoteFault line after.1 (fault.Line n)
    IsStopped line before after found = IsBroken before.0 after.0 found

    -- what was there and what was read has this fault; or memory was refused, or reading was given
    -- up
    abbrev pub HasFault : S × List ℕ → S × List ℕ → ReadFault → Type 0
    HasFault before after (Unfit (fault.Line n)) =
        (read : List ℕ) × Gets gives before.0 read after.0
        × IsNotesFault (before.1 ++ read) (fault.Line n)
    HasFault before after found = IsBroken before.0 after.0 found
