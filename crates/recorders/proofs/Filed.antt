-- What the file of a record gets.
use Rattle.std.proofs.Common.{◌≡◌, ℕ, Bool, true, false, List, [], ◌∷◌, ◌++◌, Some, Option, refl, sym, ap, ◌∙◌, subst, append_assoc, append-nil}
use Rattle.std.specs.List.{concat}
use Rattle.acts.specs.Deed.{Deed, Reply}
use Rattle.acts.specs.History.{History, Past}
use Rattle.records.specs.Entry.{IsSecondRecord, Note, second_header}
use Rattle.records.specs.Sink.{Gets, GetsPart, Puts, Takes}
use Rattle.records.proofs.Sinks.{Takes-then}
use Rattle.recorders.specs.Laws.{IsFiled}
use Rattle.recorders.specs.Recorder.{MayRecord, Records, entries_of}
use Rattle.recorders.specs.RecordFile.{HasGot, Stores, has_failed, is_whole}
use Rattle.recorders.specs.declared.record_file.RecordFile.{RecordFile}
use Rattle.recorders.proofs.Closed.{closes_at, closes_record}
use Rattle.recorders.proofs.Counts.{Gathers-then}
use Rattle.recorders.proofs.Recorded.{is_recorded, may_be_recorded}

-- what a sink takes that has not failed, and what one that has
takes_all : {S : Type 0} (adds : S → List ℕ → S → Type 0) (failed : S → Bool) (before after : S)
    (text : List ℕ) → failed before ≡ false → failed after ≡ false →
    Takes adds failed before text after → Gets adds before text after
takes_all adds failed before after text had has takes = rw (had, has) at takes

takes_part : {S : Type 0} (adds : S → List ℕ → S → Type 0) (failed : S → Bool) (before after : S)
    (text : List ℕ) → failed before ≡ false → failed after ≡ true →
    Takes adds failed before text after → GetsPart adds before text after
takes_part adds failed before after text had has takes = rw (had, has) at takes

module _ {S : Type 0} (adds : S → List ℕ → S → Type 0) where
  -- puts into the file are one
  puts_store : (pieces : List (List ℕ)) (before after : RecordFile S) →
      Puts (Stores adds) before pieces after → Stores adds before (concat pieces) after
  puts_store [] before after same =
      subst (Stores adds before []) same (([], ([], refl, refl), append-nil _), λ prompt. prompt)
  puts_store (piece ∷ pieces) before after (mid, (gathers, prompt), puts) =
      let (more, on) = puts_store pieces mid after puts in (
        Gathers-then adds before.file mid.file after.file before.gathered.bytes.items piece
            mid.gathered.bytes.items (concat pieces) after.gathered.bytes.items gathers more,
        λ first. on (prompt first),
      )

  gets_stores : (before after : RecordFile S) (text : List ℕ) → Gets (Stores adds) before text after →
      Stores adds before text after
  gets_stores before after text (pieces, puts, joined) =
      subst (λ bytes. Stores adds before bytes after) (sym joined)
      (puts_store pieces before after puts)

  -- a file that has not failed, and got all of a record, has gathered nothing
  got_whole : (notes : List Note) (text : List ℕ) (empty left : RecordFile S) →
      empty.gathered.bytes.items ≡ [] → left.failed ≡ false → IsSecondRecord notes text →
      Stores adds empty text left → Gets adds empty.file text left.file
  got_whole notes text empty left none well is ((gone, gets, joined), prompt) =
      let split : text ≡ gone ++ left.gathered.bytes.items =
      sym (ap (λ bytes. bytes ++ text) none) ∙ joined in
      let waits = prompt (λ _. ap is_whole none) well in
      let over = closes_at text (closes_record notes text is) gone left.gathered.bytes.items split
      waits in
      subst (λ bytes. Gets adds empty.file bytes left.file)
      (sym (append-nil gone) ∙ ap (λ bytes. gone ++ bytes) (sym over) ∙ sym split) gets

  -- a file that got a part of a text has handed on a beginning of it
  got_part : (text front rest : List ℕ) (empty left : RecordFile S) →
      empty.gathered.bytes.items ≡ [] → text ≡ front ++ rest → Stores adds empty front left →
      (start more : List ℕ) × Gets adds empty.file start left.file × (text ≡ start ++ more)
  got_part text front rest empty left none split ((gone, gets, joined), prompt) = (
    gone,
    left.gathered.bytes.items ++ rest,
    gets,
    split ∙ ap (λ bytes. bytes ++ rest) (sym (ap (λ bytes. bytes ++ front) none) ∙ joined)
        ∙ append_assoc gone left.gathered.bytes.items rest,
  )

  has_got : (notes : List Note) (text : List ℕ) (empty left : RecordFile S) (failed : Bool) →
      left.failed ≡ failed → empty.gathered.bytes.items ≡ [] → empty.failed ≡ false →
      IsSecondRecord notes text → Takes (Stores adds) has_failed empty text left →
      HasGot adds empty.file text left
  has_got notes text empty left true has none well is takes =
      let (front, rest, gets, split, some) =
      takes_part (Stores adds) has_failed empty left text well has takes in
      rw has (got_part text front rest empty left none split (gets_stores empty left front gets))
  has_got notes text empty left false has none well is takes =
      let gets = takes_all (Stores adds) has_failed empty left text well has takes in
      rw has (got_whole notes text empty left none has is (gets_stores empty left text gets))

  module _ {W : Type 0} (step : W → Deed → Reply → W → Type 0) where
    filed : (h : History) (empty begun left : RecordFile S) (first last : W) →
        empty.gathered.bytes.items ≡ [] → empty.failed ≡ false →
        Takes (Stores adds) has_failed empty second_header begun →
        Past (Records step (Stores adds) has_failed) (first, begun) (last, left) h →
        (text : List ℕ) × IsSecondRecord (entries_of h) text × HasGot adds empty.file text left
    filed h empty begun left first last none well header past =
        let (made, (lines, are, takes)) =
        is_recorded step (Stores adds) has_failed h (first, begun) (last, left) past in
        let text = second_header ++ lines in
        let is : IsSecondRecord (entries_of h) text = (lines, refl, are) in (
          text,
          is,
          has_got (entries_of h) text empty left left.failed refl none well is
              (Takes-then (Stores adds) has_failed empty begun left second_header lines header
              takes),
        )

    filed_in : (h : History) (empty begun : RecordFile S) (first last : W)
        (kept : Option (RecordFile S)) → empty.gathered.bytes.items ≡ [] → empty.failed ≡ false →
        Takes (Stores adds) has_failed empty second_header begun →
        Past (MayRecord step (Stores adds) has_failed) (first, Some begun) (last, kept) h →
        (left : RecordFile S) × (kept ≡ Some left) × (text : List ℕ)
        × IsSecondRecord (entries_of h) text × HasGot adds empty.file text left
    filed_in h empty begun first last kept none well header past =
        let (left, is, made) =
        may_be_recorded step (Stores adds) has_failed h (first, Some begun) (last, kept) past in
        let (text, tells, got) = filed h empty begun left first last none well header made in
        (left, is, text, tells, got)

    pub is_filed : IsFiled step adds
    is_filed h empty begun first last kept none well (sink, is, header) past =
        filed_in h empty sink first last kept none well header
        (subst (λ begun. Past (MayRecord step (Stores adds) has_failed) (first, begun) (last, kept)
        h) is past)
