-- Records of version 2: the text of a list of answers that tells the rows of each wait (this
-- project's own format).
use Rattle.std.specs.Prelude.{◌≡◌, ◌≢◌, ◌+◌, ◌⊎◌, ℕ, suc, zero, List, [], ◌∷◌, ◌++◌, map, Option, Some, None, IfSome, codes}
use Rattle.std.specs.List.{AllByRecursion}
use Rattle.std.specs.Option.{option_map}
use Rattle.acts.specs.declared.row.Row.{Row}
use Rattle.acts.specs.Deed.{Reply, reply_of}
use Rattle.lines.specs.Line.{BeginsWithLine, IsWholeLine, newline}
use Rattle.lines.specs.Rows.{BeginsWithWait, IsRow, IsWait}
use Rattle.records.specs.declared.entry.Entry.{Entry}
use Rattle.records.specs.Record.{IsFirstBad, IsRecord, IsTold}

-- what an entry says: an answer, and the rows of the wait that it answers where these are stated
pub record Note : Type 0 where
  pub rows : Option (List Row)
  pub reply : Reply

-- what an entry of the program says
abbrev pub note_of : {A : Type 0} → Entry A → Note
note_of entry = record {
  rows = option_map (λ rows. rows.items) entry.rows;
  reply = reply_of entry.answer;
}

-- the entry of an answer without rows
abbrev pub plain_note : Reply → Note
plain_note reply = record { rows = None; reply = reply }

-- an entry that a record of version 2 can state
abbrev pub IsNote : Note → Type 0
IsNote note = IfSome note.rows (AllByRecursion IsRow) × IsTold note.reply

-- the line of the wait where its rows are told, and the answer's line, each with its newline
abbrev pub AreLinesOf : Option (List Row) → Reply → List ℕ → Type 0
AreLinesOf None reply text = IsWholeLine reply text
AreLinesOf (Some rows) reply text =
    (wait answer : List ℕ) × IsWait rows wait × IsWholeLine reply answer
    × (text ≡ wait ++ newline ∷ answer)

-- an entry that has lines
abbrev pub HasLines : Note → Type 0
HasLines note = (text : List ℕ) × AreLinesOf note.rows note.reply text

-- the lines of entries, one after the other
abbrev pub AreNotes : List Note → List ℕ → Type 0
AreNotes [] text = text ≡ []
AreNotes (note ∷ notes) text =
    (front rest : List ℕ) × AreLinesOf note.rows note.reply front × (text ≡ front ++ rest)
    × AreNotes notes rest

-- the first line of version 2, with its newline
abbrev pub second_header : List ℕ
second_header = codes "rx-record 2\n"

-- a record of version 2: the header, and the lines of the entries
abbrev pub IsSecondRecord : List Note → List ℕ → Type 0
IsSecondRecord notes text =
    (lines : List ℕ) × (text ≡ second_header ++ lines) × AreNotes notes lines

-- a record of either version; the entries of one of version 1 have no rows
abbrev pub AreEntries : List Note → List ℕ → Type 0
AreEntries notes text =
    ((replies : List Reply) × IsRecord replies text × (notes ≡ map plain_note replies))
    ⊎ IsSecondRecord notes text

-- how many lines an entry has
abbrev pub lines_of : Option (List Row) → ℕ
lines_of None = 1
lines_of (Some rows) = 2

-- how many lines entries have
abbrev pub lines_in : List Note → ℕ
lines_in [] = 0
lines_in (note ∷ notes) = lines_of note.rows + lines_in notes

-- a text in which an entry should begin, but none does, and whose first bad line comes after `more`
-- lines: it is not empty and begins neither with the line of an answer nor with that of a wait,
-- each with its newline; or it begins with the line of a wait, and no line of an answer follows
abbrev pub StopsAfter : ℕ → List ℕ → Type 0
StopsAfter zero bad = (bad ≢ []) × (¬ BeginsWithLine bad) × (¬ BeginsWithWait bad)
StopsAfter (suc zero) bad =
    (rows : List Row) × (line rest : List ℕ) × IsWait rows line × (bad ≡ line ++ newline ∷ rest)
    × (¬ BeginsWithLine rest)
StopsAfter _ bad = ⊥

-- the line after `count` lines is the first bad one
pub record IsBadNoteAfter (count : ℕ) (lines : List ℕ) : Type 0 where
  pub notes : List Note
  pub good : List ℕ
  pub bad : List ℕ
  pub more : ℕ
  pub whole : lines ≡ good ++ bad
  pub before : AreNotes notes good
  pub number : lines_in notes + more ≡ count
  pub stops : StopsAfter more bad

-- a text that begins with the header line of version 2 and its newline
abbrev pub HasSecondHeader : List ℕ → Type 0
HasSecondHeader text = (rest : List ℕ) × (text ≡ second_header ++ rest)

-- line n of a text of version 2, counted from 1 with the header, is its first bad one
abbrev pub IsFirstBadSecond : List ℕ → ℕ → Type 0
IsFirstBadSecond text n =
    (count : ℕ) × (lines : List ℕ) × (n ≡ count + 2) × (text ≡ second_header ++ lines)
    × IsBadNoteAfter count lines

-- line n of a text of either version is its first bad one
abbrev pub IsBadLine : List ℕ → ℕ → Type 0
IsBadLine text n = IsFirstBad text n ⊎ IsFirstBadSecond text n
