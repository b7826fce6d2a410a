-- What the steps of a recorder write.
use Rattle.std.proofs.Common.{◌≡◌, ℕ, Bool, true, false, List, [], ◌∷◌, ◌++◌, Option, Some, None, MatchOption, refl, sym, ap, ◌∙◌, subst, append_assoc}
use Rattle.std.proofs.lemmas.Bool.{false≢true}
use Rattle.acts.specs.Deed.{Deed, Reply}
use Rattle.acts.specs.History.{History, Past}
use Rattle.records.specs.Entry.{AreNotes, Note, second_header}
use Rattle.records.specs.Sink.{Gets, Takes}
use Rattle.records.proofs.Sinks.{Takes-none, Takes-then}
use Rattle.recorders.specs.Laws.{IsRecorded, IsWholeRecord, MayBeRecorded}
use Rattle.recorders.specs.Recorder.{MayRecord, Records, entries_of}

-- the lines of some entries and then those of others are the lines of all
AreNotes-append : (xs ys : List Note) (a b : List ℕ) → AreNotes xs a → AreNotes ys b →
    AreNotes (xs ++ ys) (a ++ b)
AreNotes-append [] ys a b none are = rw none are
AreNotes-append (x ∷ xs) ys a b (front, rest, is, split, others) are = (
  front,
  rest ++ b,
  is,
  ap (λ text. text ++ b) split ∙ append_assoc front rest b,
  AreNotes-append xs ys rest b others are,
)

-- a sink that has not failed in the end got the whole text
taken_whole : {S : Type 0} (adds : S → List ℕ → S → Type 0) (failed : S → Bool) (before after : S)
    (text : List ℕ) (had : Bool) → failed before ≡ had → failed after ≡ false →
    Takes adds failed before text after → Gets adds before text after
taken_whole adds failed before after text true is well takes =
    let same : before ≡ after = rw is at takes in
    absurd (false≢true (sym well ∙ ap failed (sym same) ∙ is))
taken_whole adds failed before after text false is well takes = rw (is, well) at takes

module _ {W S : Type 0} (step : W → Deed → Reply → W → Type 0) (adds : S → List ℕ → S → Type 0)
    (failed : S → Bool) where
  pub is_recorded : IsRecorded step adds failed
  is_recorded [] first now same =
      let sinks : first.1 ≡ now.1 = ap (λ pair. pair.1) same in (
        ap (λ pair. pair.0) same,
        ([], refl, subst (λ s. Takes adds failed first.1 [] s) sinks (Takes-none adds failed first.1)),
      )
  is_recorded (pair ∷ h) first now (mid, (made, (lines, are, takes)), past) =
      let (on, (rest, others, more)) = is_recorded h mid now past in (
        (mid.0, made, on),
        (
          lines ++ rest,
          AreNotes-append _ (entries_of h) lines rest are others,
          Takes-then adds failed first.1 mid.1 now.1 lines rest takes more,
        ),
      )

  pub is_whole_record : IsWholeRecord step adds failed
  is_whole_record h sink first now header past well =
      let (on, (lines, are, takes)) = is_recorded h first now past in
      let text = second_header ++ lines in
      let all = Takes-then adds failed sink first.1 now.1 second_header lines header takes in (
        text,
        (lines, refl, are),
        taken_whole adds failed sink now.1 text (failed sink) refl well all,
      )

  -- no record is made
  none_made : (h : History) (first now : W × Option S) → first.1 ≡ None →
      Past (MayRecord step adds failed) first now h →
      Past step first.0 now.0 h × (now.1 ≡ None)
  none_made [] first now none same =
      (ap (λ pair. pair.0) same, ap (λ pair. pair.1) (sym same) ∙ none)
  none_made (pair ∷ h) first now none (mid, (made, noted), past) =
      let still : mid.1 ≡ None = rw none at noted in
      let (on, last) = none_made h mid now still past in
      ((mid.0, made, on), last)

  -- a record is made
  one_made : (h : History) (first now : W × Option S) (sink : S) → first.1 ≡ Some sink →
      Past (MayRecord step adds failed) first now h →
      (left : S) × (now.1 ≡ Some left)
      × Past (Records step adds failed) (first.0, sink) (now.0, left) h
  one_made [] first now sink some same = (
    sink,
    ap (λ pair. pair.1) (sym same) ∙ some,
    ap (λ world. (world, sink)) (ap (λ pair. pair.0) same),
  )
  one_made (pair ∷ h) first now sink some (mid, (made, noted), past) =
      let (next, also, takes) = rw some at noted in
      let (left, last, on) = one_made h mid now next also past in
      (left, last, ((mid.0, next), (made, takes), on))

  may_by : (h : History) (first now : W × Option S) (sink : Option S) → first.1 ≡ sink →
      Past (MayRecord step adds failed) first now h →
      MatchOption sink (Past step first.0 now.0 h × (now.1 ≡ None))
      (λ sink. (left : S) × (now.1 ≡ Some left)
      × Past (Records step adds failed) (first.0, sink) (now.0, left) h)
  may_by h first now None is past = none_made h first now is past
  may_by h first now (Some sink) is past = one_made h first now sink is past

  pub may_be_recorded : MayBeRecorded step adds failed
  may_be_recorded h first now past = may_by h first now first.1 refl past
