-- What is read of a source, step by step.
use Rattle.std.proofs.Common.{◌≡◌, ◌+◌, ◌-◌, ◌<◌, ◌≤◌, ℕ, List, [], ◌∷◌, ◌++◌, Option, Some, None, length, drop, refl, sym, ap, ◌∙◌, subst, append_assoc, append-nil, inr, arith}
use Rattle.std.proofs.Math.Seq.{drop-append_seam}
use Rattle.std.proofs.lemmas.List.{length-append}
use Rattle.acts.specs.declared.row.Row.{Row}
use Rattle.records.specs.declared.reader.ReadFault.{ReadFault}
use Rattle.records.specs.declared.reader.ReadFault.TheVariants.{GivenUp, Unfit}
use Rattle.records.specs.declared.record.RecordFault.{RecordFault}
use Rattle.records.specs.declared.record.RecordFault.TheVariants as fault
use Rattle.records.specs.Entry.{AreLinesOf, AreNotes, Note, lines_in, lines_of, second_header}
use Rattle.records.specs.Fault.{IsNoteFault}
use Rattle.records.specs.Sink.{Gets}
use Rattle.records.specs.Reading.{AreAll, GivesFault, GivesRecord, HasFault, IsAtEnd, IsBroken, IsStopped, ReadsOn}
use Rattle.records.proofs.Notes.{AreNotes-more, entries_fault, lines_in-more, long_front, notes_fault}
use Rattle.records.proofs.Sinks.{Gets-append}

-- an entry has a line at least
some_lines_of : (rows : Option (List Row)) → 1 ≤ lines_of rows
some_lines_of None = omega arith
some_lines_of (Some rows) = omega arith

module _ {S : Type 0} (gives : S → List ℕ → S → Type 0) (most : S → ℕ) where
  -- nothing is read
  pub ReadsOn-none : (place : S × List ℕ) → ReadsOn gives most place [] place
  ReadsOn-none place = ([], ([], refl, refl), append-nil place.1, omega arith)

  -- a piece is read
  pub ReadsOn-piece : (before after : S) (held piece : List ℕ) (taken : ℕ) →
      length piece ≡ taken → gives before piece after → taken + most after ≤ most before →
      ReadsOn gives most (before, held) [] (after, held ++ piece)
  ReadsOn-piece before after held piece taken long step less = (
    piece,
    (piece ∷ [], (after, step, refl), sym (append-nil piece)),
    refl,
    omega (arith, long, less),
  )

  -- a source that gives an empty piece is at its end
  pub ends : (before after : S) (piece : List ℕ) (taken : ℕ) → length piece ≡ taken →
      gives before piece after → taken ≡ 0 → IsAtEnd gives after
  ends before after [] taken long step none = (before, step)
  ends before after (b ∷ piece) taken long step none = absurd (omega (arith, long, none))

  -- some bytes are used, and then others
  pub ReadsOn-then : (before mid after : S × List ℕ) (x y : List ℕ) →
      ReadsOn gives most before x mid → ReadsOn gives most mid y after →
      ReadsOn gives most before (x ++ y) after
  ReadsOn-then before mid after x y (read, gets, whole, within) (more, others, rest, less) =
      let long = length-append read more in (
        read ++ more,
        Gets-append gives before.0 mid.0 after.0 read more gets others,
        sym (append_assoc before.1 read more) ∙ ap (λ text. text ++ more) whole
            ∙ append_assoc x mid.1 more ∙ ap (λ text. x ++ text) rest
            ∙ sym (append_assoc x y after.1),
        omega (arith, long, within, less),
      )

  -- what was read is used up to a rest
  pub ReadsOn-use : (before : S × List ℕ) (source : S) (held front rest : List ℕ) →
      ReadsOn gives most before [] (source, held) → held ≡ front ++ rest →
      ReadsOn gives most before front (source, rest)
  ReadsOn-use before source held front rest (read, gets, whole, within) split =
      (read, gets, whole ∙ split, within)

  -- what is used of what is there, where nothing is read
  pub ReadsOn-used : (source : S) (held front rest left : List ℕ) → held ≡ front ++ rest →
      left ≡ drop (length held - length rest) held →
      ReadsOn gives most (source, held) front (source, left)
  ReadsOn-used source held front rest left split is =
      let long = length-append front rest in
      let same = ap length split in
      let count : length held - length rest ≡ length front = omega (arith, long, same) in
      let gone : left ≡ rest = is ∙ ap (λ n. drop n held) count
      ∙ ap (drop (length front)) split ∙ drop-append_seam front rest in (
        [],
        ([], refl, refl),
        append-nil held ∙ split ∙ ap (λ r. front ++ r) (sym gone),
        omega arith,
      )

  -- what is there and what the source gives at most is less by what was used
  pub ReadsOn-long : (before after : S × List ℕ) (used : List ℕ) →
      ReadsOn gives most before used after →
      length used + length after.1 + most after.0 ≤ length before.1 + most before.0
  ReadsOn-long before after used (read, gets, whole, within) =
      let long = length-append before.1 read in
      let also = length-append used after.1 in
      let same = ap length whole in
      omega (arith, long, also, same, within)

  -- what holds while all entries are read: those that were read so far, as many as were counted,
  -- with the number of the next line, which stays below what is there and what the source gives at
  -- most
  pub record AreSome (before : S × List ℕ) (count line : ℕ) (after : S × List ℕ) : Type 0 where
    pub notes : List Note
    pub lines : List ℕ
    pub are : AreNotes notes lines
    pub counted : length notes ≡ count
    pub reads : ReadsOn gives most before lines after
    pub number : line ≡ lines_in notes + 2
    pub few : count + 2 ≤ line
    pub room : line + length after.1 + most after.0 ≤ length before.1 + most before.0 + 2

  pub AreSome-none : (place : S × List ℕ) → AreSome place 0 2 place
  AreSome-none place = record {
    notes = [];
    lines = [];
    are = refl;
    counted = refl;
    reads = ReadsOn-none place;
    number = refl;
    few = omega arith;
    room = omega arith;
  }

  pub AreSome-more : (before mid after : S × List ℕ) (count line next : ℕ) (note : Note)
      (front : List ℕ) → AreSome before count line mid → AreLinesOf note.rows note.reply front →
      ReadsOn gives most mid front after → next ≡ line + lines_of note.rows →
      AreSome before (count + 1) next after
  AreSome-more before mid after count line next note front some is more number =
      let short = long_front note.rows note.reply front is in
      let less = ReadsOn-long mid after front more in
      let one = some_lines_of note.rows in
      let lines = lines_in-more some.notes note in
      let one_more = length-append some.notes (note ∷ []) in
      let counted = some.counted in
      let few = some.few in
      let room = some.room in
      let was = some.number in record {
        notes = some.notes ++ note ∷ [];
        lines = some.lines ++ front;
        are = AreNotes-more some.notes some.lines note front some.are is;
        counted = omega (arith, one_more, counted);
        reads = ReadsOn-then before mid after some.lines front some.reads more;
        number = omega (arith, was, number, lines);
        few = omega (arith, few, number, one);
        room = omega (arith, room, number, short, less);
      }

  pub AreSome-all : (before mid after : S × List ℕ) (count line : ℕ) →
      AreSome before count line mid → ReadsOn gives most mid [] after → after.1 ≡ [] →
      IsAtEnd gives after.0 → AreAll gives most count before after
  AreSome-all before mid after count line some more none end = (
    some.notes,
    some.lines,
    some.are,
    some.counted,
    subst (λ used. ReadsOn gives most before used after) (append-nil some.lines)
        (ReadsOn-then before mid after some.lines [] some.reads more),
    none,
    end,
  )

  -- an entry takes some bytes
  pub front_some : (before after : S × List ℕ) (note : Note) (front : List ℕ) →
      AreLinesOf note.rows note.reply front → ReadsOn gives most before front after →
      length after.1 + most after.0 < length before.1 + most before.0
  front_some before after note front is reads =
      let short = long_front note.rows note.reply front is in
      let some = some_lines_of note.rows in
      let less = ReadsOn-long before after front reads in
      omega (arith, short, some, less)

  -- what is read behind a header, to its end
  pub record_given : (count : ℕ) (before : S) (mid after : S × List ℕ) →
      ReadsOn gives most (before, []) second_header mid → AreAll gives most count mid after →
      GivesRecord gives count before after.0
  record_given count before mid after header (notes, lines, are, counted, reads, none, end) =
      let (read, gets, whole, within) =
      ReadsOn-then (before, []) mid after second_header lines header reads in (
        notes,
        read,
        gets,
        inr (
          lines,
          whole ∙ ap (λ rest. (second_header ++ lines) ++ rest) none
              ∙ append-nil (second_header ++ lines),
          are,
        ),
        counted,
        end,
      )

  module _ (up : S → S → Type 0) where
    -- what breaks later breaks
    pub broken_on : (before mid after : S) (read : List ℕ) (found : ReadFault) →
        Gets gives before read mid → IsBroken gives up mid after found →
        IsBroken gives up before after found
    broken_on before mid after read (Unfit found) gets broken = broken
    broken_on before mid after read GivenUp gets (more, last, others, given) =
        (read ++ more, last, Gets-append gives before mid last read more gets others, given)

    -- what breaks stops
    pub broken_stops : (line : ℕ) (before after : S × List ℕ) (found : ReadFault) →
        IsBroken gives up before.0 after.0 found → IsStopped gives up most line before after found
    broken_stops line before after (Unfit fault.Header) broken = broken
    broken_stops line before after (Unfit (fault.Line n)) broken = absurd broken
    broken_stops line before after (Unfit (fault.NoMemory refusal)) broken = broken
    broken_stops line before after GivenUp broken = broken

    -- a fault of what is there stops
    pub fault_stops : (line : ℕ) (before after : S × List ℕ) (found : RecordFault) →
        ReadsOn gives most before [] after → IsNoteFault line after.1 found →
        IsStopped gives up most line before after (Unfit found)
    fault_stops line before after fault.Header reads is = absurd is
    fault_stops line before after (fault.Line n) reads is = (reads, is)
    fault_stops line before after (fault.NoMemory refusal) reads is = tt

    -- what stops after some entries is a fault of all that was read
    pub stopped_on : (before mid after : S × List ℕ) (count line : ℕ) (found : ReadFault) →
        AreSome before count line mid → IsStopped gives up most line mid after found →
        HasFault gives up most before after found
    stopped_on before mid after count line (Unfit fault.Header) some stopped = absurd stopped
    stopped_on before mid after count line (Unfit (fault.Line n)) some (more, is) =
        let (read, gets, whole, within) =
        ReadsOn-then before mid after some.lines [] some.reads more in (
          read,
          gets,
          notes_fault some.notes (before.1 ++ read) some.lines after.1 line (fault.Line n)
              (whole ∙ ap (λ front. front ++ after.1) (append-nil some.lines)) some.are some.number
              is,
        )
    stopped_on before mid after count line (Unfit (fault.NoMemory refusal)) some stopped = tt
    stopped_on before mid after count line GivenUp some stopped =
        let (read, gets, whole, within) = some.reads in
        broken_on before.0 mid.0 after.0 read GivenUp gets stopped

    -- what breaks before the entries, or in them
    pub broken_given : (before after : S) (found : ReadFault) →
        IsBroken gives up before after found → GivesFault gives up before after found
    broken_given before after (Unfit fault.Header) broken = broken
    broken_given before after (Unfit (fault.Line n)) broken = absurd broken
    broken_given before after (Unfit (fault.NoMemory refusal)) broken = broken
    broken_given before after GivenUp broken = broken

    pub fault_given : (before : S) (mid after : S × List ℕ) (found : ReadFault) →
        ReadsOn gives most (before, []) second_header mid →
        HasFault gives up most mid after found → GivesFault gives up before after.0 found
    fault_given before mid after (Unfit fault.Header) header has = absurd has
    fault_given before mid after (Unfit (fault.Line n)) (read, gets, whole, within)
        (more, others, is) = (
          read ++ more,
          Gets-append gives before mid.0 after.0 read more gets others,
          entries_fault (read ++ more) (mid.1 ++ more) (fault.Line n)
              (ap (λ text. text ++ more) whole ∙ append_assoc second_header mid.1 more) is,
        )
    fault_given before mid after (Unfit (fault.NoMemory refusal)) header has = tt
    fault_given before mid after GivenUp (read, gets, whole, within) has =
        broken_on before mid.0 after.0 read GivenUp gets has
