-- Why a text is no record.
use Rattle.std.specs.Prelude.{◌≡◌, ◌+◌, ℕ, List}
use Rattle.records.specs.declared.record.RecordFault.{RecordFault}
use Rattle.records.specs.declared.record.RecordFault.TheVariants.{Header, Line, NoMemory}
use Rattle.records.specs.Entry.{HasSecondHeader, IsBadLine, IsBadNoteAfter, StopsAfter}
use Rattle.records.specs.Record.{HasHeader, IsBadAfter, IsFirstBad}

-- the text lacks the header, or else has a first bad line; refused memory says nothing of the text
abbrev pub IsFault : List ℕ → RecordFault → Type 0
IsFault text Header = ¬ HasHeader text
IsFault text (Line n) = IsFirstBad text n
IsFault text (NoMemory refusal) = Unit {0}

-- the same of the lines after a header
abbrev pub IsLineFault : List ℕ → RecordFault → Type 0
IsLineFault lines Header = ⊥
IsLineFault lines (Line n) = (count : ℕ) × (n ≡ count + 2) × IsBadAfter count lines
IsLineFault lines (NoMemory refusal) = Unit {0}

-- the text lacks both headers, or else has a first bad line
abbrev pub IsEntriesFault : List ℕ → RecordFault → Type 0
IsEntriesFault text Header = (¬ HasHeader text) × (¬ HasSecondHeader text)
IsEntriesFault text (Line n) = IsBadLine text n
IsEntriesFault text (NoMemory refusal) = Unit {0}

-- the same of the lines after a header of version 2
abbrev pub IsNotesFault : List ℕ → RecordFault → Type 0
IsNotesFault lines Header = ⊥
IsNotesFault lines (Line n) = (count : ℕ) × (n ≡ count + 2) × IsBadNoteAfter count lines
IsNotesFault lines (NoMemory refusal) = Unit {0}

-- the same of a text in which an entry should begin, at the line of this number
abbrev pub IsNoteFault : ℕ → List ℕ → RecordFault → Type 0
IsNoteFault line text Header = ⊥
IsNoteFault line text (Line n) = (more : ℕ) × (n ≡ line + more) × StopsAfter more text
IsNoteFault line text (NoMemory refusal) = Unit {0}

-- memory was refused
abbrev pub IsRefused : RecordFault → Type 0
IsRefused (NoMemory refusal) = Unit {0}
IsRefused _ = ⊥
