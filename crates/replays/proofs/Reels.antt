-- A replay whose record is read as it goes on is a replay of the entries that were read.
use Rattle.std.proofs.Common.{◌≡◌, ◌+◌, ◌≤◌, ℕ, Bool, List, [], ◌∷◌, ◌++◌, Option, Some, None, length, refl, sym, ap, ◌∙◌, subst, inl, inr, arith}
use Rattle.std.specs.Prelude.{MatchOption}
use Rattle.acts.specs.Deed.{Deed, Reply}
use Rattle.acts.specs.Deed as said
use Rattle.acts.specs.History.{History, Past}
use Rattle.records.specs.Entry.{Note}
use Rattle.records.specs.Reading.{ReadsOn}
use Rattle.records.specs.Sink.{Takes}
use Rattle.records.proofs.Readings.{ReadsOn-none, ReadsOn-then}
use Rattle.replays.specs.declared.halt.Halt.{Halt}
use Rattle.replays.specs.declared.halt.Halt.TheVariants.{Differs, Unread, NoMemory}
use Rattle.replays.specs.Laws.{AreReplays, IsReplayOf, Reads, differs_in, recorded}
use Rattle.replays.specs.Recording.{Answers, AnswersNext, Recorded}
use Rattle.replays.specs.Reel.{GivesOne, GoesOn, Halts, IsHalt, Reeled, Reels, Unrolls}
use Rattle.replays.specs.Replay.{Writes}

-- what is left, by its parts
same_recorded : (left : Recorded) (entries : List Note) (answered : ℕ) (differs : Option ℕ) →
    left.entries ≡ entries → left.answered ≡ answered → left.differs ≡ differs →
    left ≡ record { entries = entries; answered = answered; differs = differs }
same_recorded left entries answered differs e f g =
    ap (λ (list : List Note). record {
      entries = list;
      answered = left.answered;
      differs = left.differs;
    }) e
    ∙ ap (λ (n : ℕ). record { entries = entries; answered = n; differs = left.differs }) f
    ∙ ap (λ (number : Option ℕ). record {
      entries = entries;
      answered = answered;
      differs = number;
    }) g

-- a list without room has nothing in it
none_left : (entries : List Note) (left : ℕ) → length entries ≤ left → left ≡ 0 → entries ≡ []
none_left [] left few none = refl
none_left (note ∷ entries) left few none = absurd (omega (arith, few, none))

-- `gives`, `up` and `most` say how a source is read, `out`, `out_failed`, `err` and `err_failed` what
-- a writer does.
module _ {S O E : Type 0} (gives : S → List ℕ → S → Type 0) (up : S → S → Type 0) (most : S → ℕ)
    (out : O → List ℕ → O → Type 0) (out_failed : O → Bool)
    (err : E → List ℕ → E → Type 0) (err_failed : E → Bool) where
  abbrev Writ : O × E → Deed → Reply → O × E → Type 0
  Writ = Writes (Takes out out_failed) (Takes err err_failed)

  abbrev Replay : History → Reeled S × (O × E) → Reeled S × (O × E) → Type 0
  Replay = IsReplayOf gives up most out out_failed err err_failed

  -- where the run has halted, what is said of the entries that are left
  abbrev Shut : Option Halt → List Note → Type 0
  Shut (Some (Differs number)) entries = Unit {0}
  Shut (Some Unread) entries = entries ≡ []
  Shut (Some (NoMemory refusal)) entries = entries ≡ []
  Shut None entries = Unit {0}

  -- a replay of the entries that were read, none where the run has halted since one was not read
  abbrev Found : History → Reeled S × (O × E) → Reeled S × (O × E) → Type 0
  Found h first last =
      (replay : Replay h first last) × Shut first.0.halt replay.entries

  -- what a replay of entries that are there answers, by whether an act has differed
  answers_so : (before : Reeled S) (entries : List Note) (act : Deed) (reply : Reply)
      (after : Recorded) (differs : Option ℕ) → differs_in before.halt ≡ differs →
      MatchOption differs (AnswersNext entries before.answered act reply after)
      (λ number. (reply ≡ said.NoMore) × (after ≡ recorded before entries)) →
      Answers (recorded before entries) act reply after
  answers_so before entries act reply after differs is holds =
      subst (λ number. MatchOption number (AnswersNext entries before.answered act reply after)
      (λ _. (reply ≡ said.NoMore) × (after ≡ recorded before entries))) (sym is) holds

  -- where no entry is left there are no more answers
  answers_none : (before after : Reeled S) (entries others : List Note) (act : Deed)
      (reply : Reply) → differs_in before.halt ≡ None → differs_in after.halt ≡ None →
      entries ≡ [] → others ≡ [] → after.answered ≡ before.answered → reply ≡ said.NoMore →
      Answers (recorded before entries) act reply (recorded after others)
  answers_none before after entries others act reply well still none also count no_more =
      answers_so before entries act reply (recorded after others) None well
      (subst (λ list. AnswersNext list before.answered act reply (recorded after others)) (sym none)
      (no_more, same_recorded (recorded after others) [] before.answered None also count still))

  -- an act that is not answered since the run has halted
  answered_shut : (act : Deed) (reply : Reply) (reeled : Reeled S) (entries : List Note)
      (halt : Halt) → reeled.halt ≡ Some halt → reply ≡ said.NoMore → Shut (Some halt) entries →
      Answers (recorded reeled entries) act reply (recorded reeled entries)
  answered_shut act reply reeled entries (Differs number) is no_more shut =
      answers_so reeled entries act reply (recorded reeled entries) (Some number)
      (ap differs_in is) (no_more, refl)
  answered_shut act reply reeled entries Unread is no_more shut =
      answers_none reeled reeled entries entries act reply (ap differs_in is) (ap differs_in is)
      shut shut refl no_more
  answered_shut act reply reeled entries (NoMemory refusal) is no_more shut =
      answers_none reeled reeled entries entries act reply (ap differs_in is) (ap differs_in is)
      shut shut refl no_more

  -- an act where the run has halted before
  found_shut : (act : Deed) (reply : Reply) (h : History) (first mid last : Reeled S × (O × E))
      (halt : Halt) → first.0.halt ≡ Some halt → reply ≡ said.NoMore → mid.0 ≡ first.0 →
      Writ first.1 act reply mid.1 → Found h mid last → Found ((act, reply) ∷ h) first last
  found_shut act reply h first mid last halt is no_more same writ (found, shut) =
      let entries = found.entries in
      let shut_first : Shut first.0.halt entries =
      subst (λ (reeled : Reeled S). Shut reeled.halt entries) same shut in
      let answer : (one : Halt) → first.0.halt ≡ Some one →
      Answers (recorded first.0 entries) act reply (recorded first.0 entries) =
      λ one is_one. answered_shut act reply first.0 entries one is_one no_more
      (subst (λ some. Shut some entries) is_one shut_first) in (
        record {
          entries = entries;
          rest = found.rest;
          lines = found.lines;
          end = found.end;
          are = found.are;
          few = subst (λ (reeled : Reeled S). length entries ≤ reeled.left) same found.few;
          reads = subst (λ (reeled : Reeled S). ReadsOn gives most reeled.place found.lines found.end)
              same found.reads;
          past = (
            (recorded mid.0 entries, mid.1),
            (
              subst (λ (reeled : Reeled S). Answers (recorded first.0 entries) act reply
                  (recorded reeled entries)) (sym same) (answer halt is),
              writ,
            ),
            found.past,
          );
        },
        shut_first,
      )

  -- an act for which no entry is left
  found_over : (act : Deed) (reply : Reply) (h : History) (first mid last : Reeled S × (O × E)) →
      first.0.halt ≡ None → first.0.left ≡ 0 → reply ≡ said.NoMore → mid.0 ≡ first.0 →
      Writ first.1 act reply mid.1 → Found h mid last → Found ((act, reply) ∷ h) first last
  found_over act reply h first mid last well over no_more same writ (found, shut) =
      let entries = found.entries in
      let none = none_left entries first.0.left
      (subst (λ (reeled : Reeled S). length entries ≤ reeled.left) same found.few) over in (
        record {
          entries = entries;
          rest = found.rest;
          lines = found.lines;
          end = found.end;
          are = found.are;
          few = subst (λ (reeled : Reeled S). length entries ≤ reeled.left) same found.few;
          reads = subst (λ (reeled : Reeled S). ReadsOn gives most reeled.place found.lines found.end)
              same found.reads;
          past = (
            (recorded mid.0 entries, mid.1),
            (
              answers_none first.0 mid.0 entries entries act reply (ap differs_in well)
                  (ap (λ (reeled : Reeled S). differs_in reeled.halt) same ∙ ap differs_in well)
                  none none (ap (λ (reeled : Reeled S). reeled.answered) same) no_more,
              writ,
            ),
            found.past,
          );
        },
        subst (λ halt. Shut halt entries) (sym well) tt,
      )

  -- where the run halts, no entry is read any more, and no act has differed
  shut_since : (before after : S × List ℕ) (halt : Halt) (entries : List Note) →
      IsHalt gives up most before after halt → Shut (Some halt) entries →
      (entries ≡ []) × (differs_in (Some halt) ≡ None)
  shut_since before after (Differs number) entries is shut = absurd is
  shut_since before after Unread entries is shut = (shut, refl)
  shut_since before after (NoMemory refusal) entries is shut = (shut, refl)

  -- an act for which the next entry is not read
  found_halt : (act : Deed) (reply : Reply) (h : History) (first mid last : Reeled S × (O × E)) →
      first.0.halt ≡ None → Halts gives up most first.0 reply mid.0 →
      Writ first.1 act reply mid.1 → Found h mid last → Found ((act, reply) ∷ h) first last
  found_halt act reply h first mid last well (no_more, left, count, (halt, is, why)) writ
      (found, shut) =
      let (none, still) = shut_since first.0.place mid.0.place halt found.entries why
      (subst (λ some. Shut some found.entries) is shut) in (
        record {
          entries = [];
          rest = found.rest;
          lines = [];
          end = first.0.place;
          are = refl;
          few = omega arith;
          reads = ReadsOn-none gives most first.0.place;
          past = (
            (recorded mid.0 found.entries, mid.1),
            (
              answers_none first.0 mid.0 [] found.entries act reply (ap differs_in well)
                  (ap differs_in is ∙ still) refl none count no_more,
              writ,
            ),
            found.past,
          );
        },
        subst (λ halt. Shut halt []) (sym well) tt,
      )

  -- what the next entry gives, where it is the first of those that are left
  given : (act : Deed) (reply : Reply) (before after : Reeled S) (note : Note)
      (entries : List Note) → GivesOne note before.answered act reply after →
      AnswersNext (note ∷ entries) before.answered act reply (recorded after entries)
  given act reply before after note entries (inl (due, same, count, well)) =
      inl (
        due,
        same,
        same_recorded (recorded after entries) entries (before.answered + 1) None refl count
            (ap differs_in well),
      )
  given act reply before after note entries (inr (other, none, count, differs)) =
      inr (
        other,
        none,
        same_recorded (recorded after entries) entries before.answered
            (Some (before.answered + 1)) refl count (ap differs_in differs),
      )

  -- an act for which an entry is read
  found_more : (act : Deed) (reply : Reply) (h : History) (first mid last : Reeled S × (O × E)) →
      first.0.halt ≡ None → Unrolls gives up most first.0 act reply mid.0 →
      Writ first.1 act reply mid.1 → Found h mid last → Found ((act, reply) ∷ h) first last
  found_more act reply h first mid last well (left, (note, front, is, reads, one)) writ
      (found, shut) =
      let few = found.few in (
        record {
          entries = note ∷ found.entries;
          rest = found.rest;
          lines = front ++ found.lines;
          end = found.end;
          are = (front, found.lines, is, refl, found.are);
          few = omega (arith, few, left);
          reads = ReadsOn-then gives most first.0.place mid.0.place found.end front found.lines reads
              found.reads;
          past = (
            (recorded mid.0 found.entries, mid.1),
            (
              answers_so first.0 (note ∷ found.entries) act reply (recorded mid.0 found.entries)
                  None (ap differs_in well) (given act reply first.0 mid.0 note found.entries one),
              writ,
            ),
            found.past,
          );
        },
        subst (λ halt. Shut halt (note ∷ found.entries)) (sym well) tt,
      )

  found_by : (act : Deed) (reply : Reply) (h : History) (first mid last : Reeled S × (O × E))
      (halt : Option Halt) → first.0.halt ≡ halt →
      Reels gives up most first.0 act reply mid.0 →
      Writ first.1 act reply mid.1 → Found h mid last → Found ((act, reply) ∷ h) first last
  found_by act reply h first mid last (Some halt) is reels writ found =
      let (none, same) = subst (λ some. MatchOption some
      (GoesOn gives up most first.0 act reply mid.0)
      (λ _. (reply ≡ said.NoMore) × (mid.0 ≡ first.0))) is reels in
      found_shut act reply h first mid last halt is none same writ found
  found_by act reply h first mid last None is reels writ found =
      let goes = subst (λ some. MatchOption some
      (GoesOn gives up most first.0 act reply mid.0)
      (λ _. (reply ≡ said.NoMore) × (mid.0 ≡ first.0))) is reels in
      elim goes [
        | inl (over, none, same) ↦ found_over act reply h first mid last is over none same writ found
        | inr (inl halts) ↦ found_halt act reply h first mid last is halts writ found
        | inr (inr unrolls) ↦ found_more act reply h first mid last is unrolls writ found
      ]

  -- nothing is replayed
  shut_none : (halt : Option Halt) → Shut halt []
  shut_none None = tt
  shut_none (Some (Differs number)) = tt
  shut_none (Some Unread) = refl
  shut_none (Some (NoMemory refusal)) = refl

  found_all : (h : History) (first last : Reeled S × (O × E)) →
      Past (Reads gives up most out out_failed err err_failed) first last h → Found h first last
  found_all [] first last same = (
    record {
      entries = [];
      rest = [];
      lines = [];
      end = first.0.place;
      are = refl;
      few = omega arith;
      reads = ReadsOn-none gives most first.0.place;
      past = ap (λ (state : Reeled S × (O × E)). (recorded state.0 [], state.1)) same;
    },
    shut_none first.0.halt,
  )
  found_all (pair ∷ h) first last (mid, (reels, writ), past) =
      found_by pair.0 pair.1 h first mid last first.0.halt refl reels writ
      (found_all h mid last past)

  -- each such replay is a replay of the entries that were read
  pub are_replays : AreReplays gives up most out out_failed err err_failed
  are_replays h first last past = (found_all h first last past).0
