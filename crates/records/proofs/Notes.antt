-- Records of version 2: each list of entries has one text at most, no two lists have the same, and
-- a text that has a bad line is of none.
use Rattle.std.proofs.Common.{◌≡◌, ◌⊎◌, ℕ, zero, suc, List, [], ◌∷◌, ◌++◌, Option, Some, None, Ok, Err, IfOk, IfErr, MatchResult, length, length-append, map, drop, refl, sym, ap, subst, ◌∙◌, append-nil, ◌+◌, ◌≤◌, inl, inr, arith}
use Rattle.std.specs.Prelude.{Result}
use Rattle.std.proofs.lemmas.List.{append_assoc, map_push}
use Rattle.std.specs.List.{AllByRecursion}
use Rattle.acts.specs.declared.row.Row.{Row}
use Rattle.acts.specs.Deed.{Reply}
use Rattle.lines.specs.Line.{IsLine, IsWholeLine}
use Rattle.lines.specs.Rows.{IsWait, rows_text}
use Rattle.lines.proofs.Cuts.{head, same_cut}
use Rattle.lines.proofs.Lines.{Lacks-line, no_wait, one_line, same_line}
use Rattle.lines.proofs.RowTexts.{Lacks-wait, same_rows}
use Rattle.records.specs.Entry.{AreEntries, AreLinesOf, AreNotes, HasLines, HasSecondHeader, IsBadLine, Note, StopsAfter, lines_in, lines_of, plain_note, second_header}
use Rattle.records.specs.Fault.{IsEntriesFault, IsFault, IsNoteFault, IsNotesFault, IsRefused}
use Rattle.records.specs.declared.record.RecordFault.{RecordFault}
use Rattle.records.specs.declared.record.RecordFault.TheVariants as fault
use Rattle.records.specs.Record.{HasHeader, header}
use Rattle.records.proofs.Records.{no_bad_line, nothing_after, one_bad_line, one_list, whole_rest}

-- where texts that begin with the lines of answers are equal, so are the answers and the rests
same_answer : (a b : Reply) (x y r s : List ℕ) → IsWholeLine a x → IsWholeLine b y → x ++ r ≡ y
    ++ s → (a ≡ b) × (r ≡ s)
same_answer a b x y r s (line, is, whole) (line', is', whole') e =
    let (same, rest) = same_cut 10 line line' r s (Lacks-line a line is) (Lacks-line b line' is')
    (sym (whole_rest x line r whole) ∙ e ∙ whole_rest y line' s whole') in
    (same_line a b line' (rw same at is) is', rest)

-- where texts that begin with the lines of waits are equal, so are the rows and the rests
same_wait : (a b : List Row) (x y r s : List ℕ) → IsWait a x → IsWait b y → x ++ 10 ∷ r ≡ y ++ 10
    ∷ s → (a ≡ b) × (r ≡ s)
same_wait a b x y r s is is' e =
    let (same, rest) = same_cut 10 x y r s (Lacks-wait a x is) (Lacks-wait b y is') e in
    let rows = ap (drop 4) (sym is.1 ∙ same ∙ is'.1) in
    (same_rows a b (rows_text b) (is.0, sym rows) (is'.0, refl), rest)

-- what begins with the line of a wait does not begin with that of an answer
wait_or_answer : (rows : List Row) (reply : Reply) (x y r s : List ℕ) → IsWait rows x
    → IsLine reply y → x ++ 10 ∷ r ≡ y ++ 10 ∷ s → ⊥
wait_or_answer rows reply x y r s is is' e =
    let (same, rest) = same_cut 10 x y r s (Lacks-wait rows x is) (Lacks-line reply y is') e in
    no_wait reply y _ is' (sym same ∙ is.1)

-- where texts that begin with the lines of entries are equal, so are the entries and the rests
same_lines : (ra rb : Option (List Row)) (a b : Reply) (x y r s : List ℕ) → AreLinesOf ra a x
    → AreLinesOf rb b y → x ++ r ≡ y ++ s → (ra ≡ rb) × (a ≡ b) × (r ≡ s)
same_lines None None a b x y r s is is' e =
    let (same, rest) = same_answer a b x y r s is is' e in
    (refl, same, rest)
same_lines None (Some rows) a b x y r s is is' e =
    absurd (wait_or_answer rows a is'.0 is.0 (is'.1 ++ s) r is'.2 is.1
    (sym (append_assoc is'.0 (10 ∷ is'.1) s) ∙ ap (λ front. front ++ s) (sym is'.4) ∙ sym e
    ∙ whole_rest x is.0 r is.2))
same_lines (Some rows) None a b x y r s is is' e =
    absurd (wait_or_answer rows b is.0 is'.0 (is.1 ++ r) s is.2 is'.1
    (sym (append_assoc is.0 (10 ∷ is.1) r) ∙ ap (λ front. front ++ r) (sym is.4) ∙ e
    ∙ whole_rest y is'.0 s is'.2))
same_lines (Some rows) (Some rows') a b x y r s is is' e =
    let (wait, behind) = same_wait rows rows' is.0 is'.0 (is.1 ++ r) (is'.1 ++ s) is.2 is'.2
    (sym (append_assoc is.0 (10 ∷ is.1) r) ∙ ap (λ front. front ++ r) (sym is.4) ∙ e
    ∙ ap (λ front. front ++ s) is'.4 ∙ append_assoc is'.0 (10 ∷ is'.1) s) in
    let (same, rest) = same_answer a b is.1 is'.1 r s is.3 is'.3 behind in
    (ap Some wait, same, rest)

-- entries whose parts are equal are equal
same_note : (a b : Note) → a.rows ≡ b.rows → a.reply ≡ b.reply → a ≡ b
same_note a b e f =
    ap (λ (rows : Option (List Row)). record { rows = rows; reply = a.reply }) e
    ∙ ap (λ (reply : Reply). record { rows = b.rows; reply = reply }) f

nothing_before : (front rest : List ℕ) → front ++ rest ≡ [] → front ≡ []
nothing_before [] rest e = refl
nothing_before (c ∷ front) rest e = cc e

no_line_end : (line rest : List ℕ) → line ++ 10 ∷ rest ≡ [] → ⊥
no_line_end [] rest e = cc e
no_line_end (c ∷ line) rest e = cc e

-- the lines of an entry are not empty
some_front : (rows : Option (List Row)) (reply : Reply) (front : List ℕ) → AreLinesOf rows reply
    front → front ≡ [] → ⊥
some_front None reply front is e = no_line_end is.0 [] (sym is.2 ∙ e)
some_front (Some rows) reply front is e = no_line_end is.0 is.1 (sym is.4 ∙ e)

no_notes : (rows : Option (List Row)) (reply : Reply) (front rest text : List ℕ) → AreLinesOf rows
    reply front → text ≡ front ++ rest → text ≡ [] → ⊥
no_notes rows reply front rest text is e empty =
    some_front rows reply front is (nothing_before front rest (sym e ∙ empty))

-- no two lists have the same lines
pub same_notes : (a b : List Note) (text : List ℕ) → AreNotes a text → AreNotes b text → a ≡ b
same_notes [] [] text la lb = refl
same_notes [] (b ∷ more) text la lb =
    absurd (no_notes b.rows b.reply lb.0 lb.1 text lb.2 lb.3 la)
same_notes (a ∷ others) [] text la lb =
    absurd (no_notes a.rows a.reply la.0 la.1 text la.2 la.3 lb)
same_notes (a ∷ others) (b ∷ more) text la lb =
    let (rows, reply, rest) = same_lines a.rows b.rows a.reply b.reply la.0 lb.0 la.1 lb.1 la.2 lb.2
    (sym la.3 ∙ lb.3) in
    let one = same_note a b rows reply in
    let tail = same_notes others more lb.1 (rw rest at la.4) lb.4 in
    cc (one, tail)

-- an answer has one whole line
one_whole : (reply : Reply) (a b : List ℕ) → IsWholeLine reply a → IsWholeLine reply b → a ≡ b
one_whole reply a b is is' =
    is.2 ∙ ap (λ line. line ++ 10 ∷ []) (one_line reply is.0 is'.0 is.1 is'.1) ∙ sym is'.2

-- an entry has one text
one_text_of : (rows : Option (List Row)) (reply : Reply) (a b : List ℕ) → AreLinesOf rows reply a →
    AreLinesOf rows reply b → a ≡ b
one_text_of None reply a b is is' = one_whole reply a b is is'
one_text_of (Some rows) reply a b is is' =
    is.4 ∙ ap (λ line. line ++ 10 ∷ is.1) (is.2.1 ∙ sym is'.2.1)
    ∙ ap (λ rest. is'.0 ++ 10 ∷ rest) (one_whole reply is.1 is'.1 is.3 is'.3) ∙ sym is'.4

-- a list has one text
pub same_note_text : (notes : List Note) (a b : List ℕ) → AreNotes notes a → AreNotes notes b → a
    ≡ b
same_note_text [] a b la lb = la ∙ sym lb
same_note_text (note ∷ notes) a b la lb =
    la.3 ∙ ap (λ front. front ++ la.1) (one_text_of note.rows note.reply la.0 lb.0 la.2 lb.2)
    ∙ ap (λ rest. lb.0 ++ rest) (same_note_text notes la.1 lb.1 la.4 lb.4) ∙ sym lb.3

-- each list of entries that have lines has a text
pub some_notes : (notes : List Note) → AllByRecursion HasLines notes → (text : List ℕ)
    × AreNotes notes text
some_notes [] all = ([], refl)
some_notes (note ∷ notes) ((front, is), all) =
    let (rest, are) = some_notes notes all in
    (front ++ rest, (front, rest, is, refl, are))

-- where no entry begins there are no lines of one
stops_no_lines : (more : ℕ) (bad : List ℕ) (rows : Option (List Row)) (reply : Reply)
    (front rest : List ℕ) → StopsAfter more bad → AreLinesOf rows reply front → bad ≡ front ++ rest
    → ⊥
stops_no_lines zero bad None reply front rest stops is e =
    stops.1 (reply, is.0, rest, is.1, e ∙ whole_rest front is.0 rest is.2)
stops_no_lines zero bad (Some rows) reply front rest stops is e =
    stops.2 (
      rows,
      is.0,
      is.1 ++ rest,
      is.2,
      e ∙ ap (λ text. text ++ rest) is.4 ∙ append_assoc is.0 (10 ∷ is.1) rest,
    )
stops_no_lines (suc zero) bad None reply front rest stops is e =
    wait_or_answer stops.0 reply stops.1 is.0 stops.2 rest stops.3 is.1
    (sym stops.4 ∙ e ∙ whole_rest front is.0 rest is.2)
stops_no_lines (suc zero) bad (Some rows) reply front rest stops is e =
    let (same, behind) = same_wait stops.0 rows stops.1 is.0 stops.2 (is.1 ++ rest) stops.3 is.2
    (sym stops.4 ∙ e ∙ ap (λ text. text ++ rest) is.4 ∙ append_assoc is.0 (10 ∷ is.1) rest) in
    let (line, one, whole) = is.3 in
    stops.5 (reply, line, rest, one, behind ∙ whole_rest is.1 line rest whole)
stops_no_lines (suc (suc more)) bad rows reply front rest stops is e = absurd stops

-- a text in which no entry begins, though one should, is not empty
stops_some : (more : ℕ) (bad : List ℕ) → StopsAfter more bad → bad ≡ [] → ⊥
stops_some zero bad stops e = stops.0 e
stops_some (suc zero) bad stops e = no_line_end stops.1 stops.2 (sym stops.4 ∙ e)
stops_some (suc (suc more)) bad stops e = absurd stops

-- the number of lines before the bad one is unique
stops_once : (m n : ℕ) (bad : List ℕ) → StopsAfter m bad → StopsAfter n bad → m ≡ n
stops_once zero zero bad s t = refl
stops_once zero (suc zero) bad s t = absurd (s.2 (t.0, t.1, t.2, t.3, t.4))
stops_once zero (suc (suc n)) bad s t = absurd t
stops_once (suc zero) zero bad s t = absurd (t.2 (s.0, s.1, s.2, s.3, s.4))
stops_once (suc zero) (suc zero) bad s t = refl
stops_once (suc zero) (suc (suc n)) bad s t = absurd t
stops_once (suc (suc m)) n bad s t = absurd s

-- what follows the first entry of both
next : (a b : Note) (x y rest after bad text good : List ℕ) → AreLinesOf a.rows a.reply x
    → AreLinesOf b.rows b.reply y → text ≡ x ++ rest → text ≡ good ++ bad → good ≡ y ++ after
    → (a.rows ≡ b.rows) × (rest ≡ after ++ bad)
next a b x y rest after bad text good is is' e f h =
    let (rows, reply, tail) = same_lines a.rows b.rows a.reply b.reply x y rest (after ++ bad) is
    is' (sym e ∙ f ∙ ap (λ front. front ++ bad) h ∙ append_assoc y after bad) in
    (rows, tail)

-- the text of a list has no bad line
no_bad_note : (a g : List Note) (text good bad : List ℕ) (more : ℕ) → AreNotes a text
    → AreNotes g good → text ≡ good ++ bad → StopsAfter more bad → ⊥
no_bad_note [] g text good bad more la lg e stops =
    stops_some more bad stops (nothing_after good bad (sym la ∙ e))
no_bad_note (a ∷ others) [] text good bad more la lg e stops =
    stops_no_lines more bad a.rows a.reply la.0 la.1 stops la.2
    (sym (e ∙ ap (λ front. front ++ bad) lg) ∙ la.3)
no_bad_note (a ∷ others) (h ∷ g) text good bad more la lg e stops =
    no_bad_note others g la.1 lg.1 bad more la.4 lg.4
    (next a h la.0 lg.0 la.1 lg.1 bad text good la.2 lg.2 la.3 e lg.3).1 stops

-- a text has one first bad line
same_bad_note : (a b : List Note) (text good fair bad ill : List ℕ) (m n : ℕ) → AreNotes a good
    → AreNotes b fair → text ≡ good ++ bad → text ≡ fair ++ ill → StopsAfter m bad
    → StopsAfter n ill → lines_in a + m ≡ lines_in b + n
same_bad_note [] [] text good fair bad ill m n la lb e f s t =
    let one : bad ≡ ill = sym (e ∙ ap (λ front. front ++ bad) la)
    ∙ (f ∙ ap (λ front. front ++ ill) lb) in
    let same = stops_once m n ill (subst (StopsAfter m) one s) t in
    omega (arith, same)
same_bad_note [] (b ∷ more) text good fair bad ill m n la lb e f s t =
    absurd (stops_no_lines m bad b.rows b.reply lb.0 (lb.1 ++ ill) s lb.2
    (sym (e ∙ ap (λ front. front ++ bad) la) ∙ f ∙ ap (λ front. front ++ ill) lb.3
    ∙ append_assoc lb.0 lb.1 ill))
same_bad_note (a ∷ others) [] text good fair bad ill m n la lb e f s t =
    absurd (stops_no_lines n ill a.rows a.reply la.0 (la.1 ++ bad) t la.2
    (sym (f ∙ ap (λ front. front ++ ill) lb) ∙ e ∙ ap (λ front. front ++ bad) la.3
    ∙ append_assoc la.0 la.1 bad))
same_bad_note (a ∷ others) (b ∷ more) text good fair bad ill m n la lb e f s t =
    let (rows, rest) = next a b la.0 lb.0 (la.1 ++ bad) lb.1 ill text fair la.2 lb.2
    (e ∙ ap (λ front. front ++ bad) la.3 ∙ append_assoc la.0 la.1 bad) f lb.3 in
    let others_same = same_bad_note others more (la.1 ++ bad) la.1 lb.1 bad ill m n la.4 lb.4 refl
    rest s t in
    let here : lines_of a.rows ≡ lines_of b.rows = ap lines_of rows in
    omega (arith, here, others_same)

-- two texts that follow the header in the same text are equal
pub after_second : (text x y : List ℕ) → text ≡ second_header ++ x → text ≡ second_header ++ y → x
    ≡ y
after_second text x y e f = ap (drop 12) (sym e ∙ f)

-- no text has both headers
two_headers : (text x y : List ℕ) → text ≡ header ++ x → text ≡ second_header ++ y → ⊥
two_headers text x y e f =
    let versions : 49 ≡ 50 = head (ap (drop 10) (sym e ∙ f)) in
    absurd (omega (arith, versions))

-- lists of answers as entries
same_map : (a b : List Reply) → a ≡ b → map plain_note a ≡ map plain_note b
same_map a b e = ap (map plain_note) e

-- a text is the record of one list
pub one_entries : (a b : List Note) (text : List ℕ) → AreEntries a text → AreEntries b text → a ≡ b
one_entries a b text (inl (replies, is, e)) (inl (replies', is', e')) =
    e ∙ same_map replies replies' (one_list replies replies' text is is') ∙ sym e'
one_entries a b text (inl (replies, is, e)) (inr is') =
    absurd (two_headers text is.0 is'.0 is.1 is'.1)
one_entries a b text (inr is) (inl (replies', is', e')) =
    absurd (two_headers text is'.0 is.0 is'.1 is.1)
one_entries a b text (inr (lines, whole, are)) (inr (lines', whole', are')) =
    same_notes a b lines are (rw (after_second text lines' lines whole' whole) at are')

-- a record has no bad line
pub no_bad_entry : (notes : List Note) (text : List ℕ) (n : ℕ) → AreEntries notes text
    → IsBadLine text n → ⊥
no_bad_entry notes text n (inl (replies, is, e)) (inl bad) = no_bad_line replies text n is bad
no_bad_entry notes text n (inl (replies, is, e)) (inr bad) =
    two_headers text is.0 bad.1 is.1 bad.3
no_bad_entry notes text n (inr is) (inl bad) = two_headers text bad.1 is.0 bad.3 is.1
no_bad_entry notes text n (inr (lines, whole, are)) (inr (count, others, number, whole', bad)) =
    no_bad_note notes bad.notes lines bad.good bad.bad bad.more are bad.before
    (after_second text lines others whole whole' ∙ bad.whole) bad.stops

-- a text has one first bad line
pub one_bad_entry : (text : List ℕ) (m n : ℕ) → IsBadLine text m → IsBadLine text n → m ≡ n
one_bad_entry text m n (inl bad) (inl bad') = one_bad_line text m n bad bad'
one_bad_entry text m n (inl bad) (inr bad') = absurd (two_headers text bad.1 bad'.1 bad.3 bad'.3)
one_bad_entry text m n (inr bad) (inl bad') = absurd (two_headers text bad'.1 bad.1 bad'.3 bad.3)
one_bad_entry text m n (inr (count, lines, number, whole, bad))
    (inr (count', lines', number', whole', bad')) =
    let same = same_bad_note bad.notes bad'.notes lines bad.good bad'.good bad.bad bad'.bad bad.more
    bad'.more bad.before bad'.before bad.whole
    (after_second text lines lines' whole whole' ∙ bad'.whole) bad.stops bad'.stops in
    let e = bad.number in
    let e' = bad'.number in
    omega arith

-- one more entry at the end
pub AreNotes-more : (notes : List Note) (text : List ℕ) (note : Note) (front : List ℕ)
    → AreNotes notes text → AreLinesOf note.rows note.reply front
    → AreNotes (notes ++ note ∷ []) (text ++ front)
AreNotes-more [] text note front before is =
    (front, [], is, ap (λ text. text ++ front) before ∙ sym (append-nil front), refl)
AreNotes-more (first ∷ notes) text note front before is = (
  before.0,
  before.1 ++ front,
  before.2,
  ap (λ text. text ++ front) before.3 ∙ append_assoc before.0 before.1 front,
  AreNotes-more notes before.1 note front before.4 is,
)

pub lines_in-more : (notes : List Note) (note : Note) → lines_in (notes ++ note ∷ []) ≡ lines_in notes
    + lines_of note.rows
lines_in-more [] note = omega arith
lines_in-more (first ∷ notes) note =
    let others = lines_in-more notes note in
    omega (arith, others)

-- a whole line has its newline
long_whole : (reply : Reply) (text : List ℕ) → IsWholeLine reply text → 1 ≤ length text
long_whole reply text is =
    let long = ap length is.2 ∙ length-append is.0 (10 ∷ []) in
    omega (arith, long)

-- the lines of an entry have a newline each
pub long_front : (rows : Option (List Row)) (reply : Reply) (front : List ℕ) → AreLinesOf rows reply
    front → lines_of rows ≤ length front
long_front None reply front is = long_whole reply front is
long_front (Some rows) reply front is =
    let answer = long_whole reply is.1 is.3 in
    let long = ap length is.4 ∙ length-append is.0 (10 ∷ is.1) in
    omega (arith, long, answer)

-- what holds while entries are read still holds after one more entry
pub notes_on : {T : Type 0} (view : T → Note) (lines good rest after : List ℕ)
    (before items : List T) (entry : T) (line next : ℕ)
    → lines ≡ good ++ rest → AreNotes (map view before) good
    → line ≡ lines_in (map view before) + 2
    → lines_in (map view before) + length rest ≤ length lines
    → (front : List ℕ) × AreLinesOf (view entry).rows (view entry).reply front
    × (rest ≡ front ++ after) → items ≡ before ++ entry ∷ []
    → next ≡ line + lines_of (view entry).rows
    → (found : List ℕ) × (lines ≡ found ++ after) × AreNotes (map view items) found
    × (next ≡ lines_in (map view items) + 2)
    × (lines_in (map view items) + length after ≤ length lines)
notes_on view lines good rest after before items entry line next whole are number room
    (front, is, cut) more counted =
    let views : map view items ≡ map view before ++ view entry ∷ [] =
    ap (map view) more ∙ map_push view before entry in
    let long = ap length cut ∙ length-append front after in
    let some = long_front (view entry).rows (view entry).reply front is in
    let count = lines_in-more (map view before) (view entry) in
    rw views (
      good ++ front,
      whole ∙ ap (λ tail. good ++ tail) cut ∙ sym (append_assoc good front after),
      AreNotes-more (map view before) good (view entry) front are is,
      omega (arith, number, counted, count),
      omega (arith, room, long, some, count),
    )

-- the fault of an entry, as a fault of all lines, after the entries that were read
pub notes_fault : (notes : List Note) (lines good rest : List ℕ) (line : ℕ) (f : RecordFault)
    → lines ≡ good ++ rest → AreNotes notes good → line ≡ lines_in notes + 2
    → IsNoteFault line rest f → IsNotesFault lines f
notes_fault notes lines good rest line fault.Header whole are number is = absurd is
notes_fault notes lines good rest line (fault.Line n) whole are number (more, at, stops) = (
  lines_in notes + more,
  omega (arith, number, at),
  record {
    notes = notes;
    good = good;
    bad = rest;
    more = more;
    whole = whole;
    before = are;
    number = refl;
    stops = stops;
  },
)
notes_fault notes lines good rest line (fault.NoMemory refusal) whole are number is = tt

-- the fault of the lines after the header, as a fault of the whole text
pub entries_fault : (text lines : List ℕ) (f : RecordFault) → text ≡ second_header ++ lines →
    IsNotesFault lines f → IsEntriesFault text f
entries_fault text lines fault.Header whole is = absurd is
entries_fault text lines (fault.Line n) whole (count, number, bad) =
    inr (count, lines, number, whole, bad)
entries_fault text lines (fault.NoMemory refusal) whole is = tt

-- the fault of a record of version 1, as a fault of a text without the header of version 2
pub first_fault : (text : List ℕ) (f : RecordFault) → (¬ HasSecondHeader text) → IsFault text f →
    IsEntriesFault text f
first_fault text fault.Header lacks is = (is, lacks)
first_fault text (fault.Line n) lacks is = inl is
first_fault text (fault.NoMemory refusal) lacks is = tt

-- the list of a record is read
pub entries_read : {T : Type 0} (view : T → List Note) (text : List ℕ)
    (read : Result T RecordFault) → IfOk read (λ found. AreEntries (view found) text)
    → IfErr read (IsEntriesFault text) → (notes : List Note) → AreEntries notes text →
    MatchResult read (λ found. view found ≡ notes) IsRefused
entries_read view text (Ok found) good bad notes are =
    one_entries (view found) notes text good are
entries_read view text (Err fault.Header) good bad notes (inl (replies, is, e)) =
    absurd (bad.0 (is.0, is.1))
entries_read view text (Err fault.Header) good bad notes (inr is) = absurd (bad.1 (is.0, is.1))
entries_read view text (Err (fault.Line n)) good bad notes are =
    absurd (no_bad_entry notes text n are bad)
entries_read view text (Err (fault.NoMemory refusal)) good bad notes are = tt

-- a text without either header is reported to lack them
pub no_headers : {T : Type 0} (view : T → List Note) (text : List ℕ)
    (read : Result T RecordFault) → IfOk read (λ found. AreEntries (view found) text)
    → IfErr read (IsEntriesFault text) → (¬ HasHeader text) → (¬ HasSecondHeader text)
    → MatchResult read (λ _. ⊥) (λ f. (f ≡ fault.Header) ⊎ IsRefused f)
no_headers view text (Ok found) (inl (replies, is, e)) bad first second =
    absurd (first (is.0, is.1))
no_headers view text (Ok found) (inr is) bad first second = absurd (second (is.0, is.1))
no_headers view text (Err fault.Header) good bad first second = inl refl
no_headers view text (Err (fault.Line n)) good (inl is) first second =
    absurd (first (is.1, is.3))
no_headers view text (Err (fault.Line n)) good (inr is) first second =
    absurd (second (is.1, is.3))
no_headers view text (Err (fault.NoMemory refusal)) good bad first second = inr tt

-- the first bad line is reported unless memory is refused
pub bad_entry_found : {T : Type 0} (view : T → List Note) (text : List ℕ)
    (read : Result T RecordFault) → IfOk read (λ found. AreEntries (view found) text)
    → IfErr read (IsEntriesFault text) → (n : ℕ) → IsBadLine text n → MatchResult read (λ _. ⊥)
    (λ f. (f ≡ fault.Line n) ⊎ IsRefused f)
bad_entry_found view text (Ok found) good bad n first =
    no_bad_entry (view found) text n good first
bad_entry_found view text (Err fault.Header) good bad n (inl is) = absurd (bad.0 (is.1, is.3))
bad_entry_found view text (Err fault.Header) good bad n (inr is) = absurd (bad.1 (is.1, is.3))
bad_entry_found view text (Err (fault.Line m)) good bad n first =
    inl (ap fault.Line (one_bad_entry text m n bad first))
bad_entry_found view text (Err (fault.NoMemory refusal)) good bad n first = inr tt
