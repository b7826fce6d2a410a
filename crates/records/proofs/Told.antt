-- What was read of a record may be written.
use Rattle.std.proofs.Common.{ℕ, List, [], ◌∷◌, Option, Some, None, IfSome, map, sym, subst, inl, inr}
use Rattle.std.specs.List.{AllByRecursion}
use Rattle.acts.specs.Deed.{Reply}
use Rattle.acts.specs.Deed as said
use Rattle.acts.specs.declared.row.Row.{Row}
use Rattle.lines.specs.Line.{IsLine}
use Rattle.lines.specs.Rows.{IsRow}
use Rattle.records.specs.Entry.{AreEntries, AreLinesOf, AreNotes, IsNote, Note, plain_note}
use Rattle.records.specs.Record.{AreLines, IsRecord, IsTold}

line_told : (reply : Reply) (line : List ℕ) → IsLine reply line → IsTold reply
line_told said.Done line is = tt
line_told (said.Failed sent) line is = tt
line_told (said.Started pid) line is = tt
line_told said.Refused line is = tt
line_told (said.Exited status) line is = tt
line_told (said.Arrive id bytes) line is = tt
line_told (said.Ended id) line is = tt
line_told said.TimedOut line is = tt
line_told said.NoMore line is = is

-- the answers of lines that were read may be written
pub lines_told : (replies : List Reply) (text : List ℕ) → AreLines replies text →
    AllByRecursion IsTold replies
lines_told [] text are = tt
lines_told (reply ∷ replies) text (line, rest, is, cut, are) =
    (line_told reply line is, lines_told replies rest are)

note_told : (rows : Option (List Row)) (reply : Reply) (text : List ℕ)
    → AreLinesOf rows reply text → IfSome rows (AllByRecursion IsRow) × IsTold reply
note_told None reply text (line, is, whole) = (tt, line_told reply line is)
note_told (Some rows) reply text (wait, answer, is, (line, told, whole), cut) =
    (is.0, line_told reply line told)

notes_told : (notes : List Note) (text : List ℕ) → AreNotes notes text → AllByRecursion IsNote notes
notes_told [] text are = tt
notes_told (note ∷ notes) text (front, rest, is, cut, are) =
    (note_told note.rows note.reply front is, notes_told notes rest are)

plain_told : (replies : List Reply) → AllByRecursion IsTold replies →
    AllByRecursion IsNote (map plain_note replies)
plain_told [] all = tt
plain_told (reply ∷ replies) (told, all) = ((tt, told), plain_told replies all)

-- the answers of a record may be written
answers_told : (replies : List Reply) (text : List ℕ) → IsRecord replies text →
    AllByRecursion IsTold replies
answers_told replies text (lines, whole, are) = lines_told replies lines are

-- the entries of a record of either version may be written
pub entries_told : (notes : List Note) (text : List ℕ) → AreEntries notes text →
    AllByRecursion IsNote notes
entries_told notes text (inl (replies, is, same)) =
    subst (AllByRecursion IsNote) (sym same) (plain_told replies (answers_told replies text is))
entries_told notes text (inr (lines, whole, are)) = notes_told notes lines are
