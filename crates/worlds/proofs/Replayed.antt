-- Recorded runs that are replayed.
use Rattle.std.proofs.Common.{◌≡◌, ℕ, zero, suc, Bool, true, false, List, [], ◌∷◌, ◌++◌, None, map, take, refl, sym, ap, ◌∙◌, inl, inr}
use Rattle.std.specs.Prelude.{flat_map}
use Rattle.acts.specs.Deed.{Deed, Reply}
use Rattle.acts.specs.Deed as said
use Rattle.acts.specs.History.{History}
use Rattle.engine.proofs.Laws.{answers_decide, answers_lead, nothing_follows}
use Rattle.engine.specs.Prelude.{ClosesAt, CutsOff, Ending, Event, GoAlike, Over, Performs, events, is_no_more}
use Rattle.records.proofs.Notes.{one_entries}
use Rattle.recorders.proofs.Recorded.{is_whole_record}
use Rattle.recorders.proofs.Replayed.{is_replayed}
use Rattle.recorders.specs.Laws.{AreLedAlike, EndsAtNoMore, acts_of, answers_of}
use Rattle.recorders.specs.Recorder.{entries_of}
use Rattle.replays.specs.Recording.{whole}
use Rattle.worlds.specs.Laws.{AreReplayed}

-- where each answer that cuts a run off is the last one, the answer that there are no more is too
ends_at : (h : History) → ClosesAt CutsOff h → EndsAtNoMore h
ends_at [] closes = tt
ends_at (pair ∷ h) closes = (λ none. closes.0 (inl (ap is_no_more none)), ends_at h closes.1)

-- the act of an event
abbrev act_in : Event Deed Ending → List Deed
act_in (Performs act) = act ∷ []
act_in (Over e) = []

none_taken : (n : ℕ) → flat_map act_in (take n []) ≡ []
none_taken zero = refl
none_taken (suc n) = refl

-- the acts of the first events
front_acts : (n : ℕ) (h : History) (e : Ending) →
    flat_map act_in (take n (events h e)) ≡ take n (acts_of h)
front_acts zero h e = refl
front_acts (suc n) [] e = none_taken n
front_acts (suc n) (pair ∷ h) e = ap (λ acts. pair.0 ∷ acts) (front_acts n h e)

-- histories that go alike are led alike by their answers
led_alike : (h k : History) (e f : Ending) → GoAlike h e k f → AreLedAlike h k
led_alike h k e f alike = λ n same.
    sym (front_acts (suc n) h e) ∙ ap (flat_map act_in) (alike n same) ∙ front_acts (suc n) k f

module _ {W S O E : Type 0} (step : W → Deed → Reply → W → Type 0)
    (adds : S → List ℕ → S → Type 0) (failed : S → Bool)
    (out : O → List ℕ → O → Type 0) (out_failed : O → Bool)
    (err : E → List ℕ → E → Type 0) (err_failed : E → Bool)
    (script : List ℕ) (args : List (List ℕ)) (ticks : ℕ) where
  pub are_replayed :
      AreReplayed step adds failed out out_failed err err_failed script args ticks
  are_replayed sink first now end ran header well =
      let h = ran.history in
      let (text, is, gets) = is_whole_record step adds failed h sink first now header ran.past well in (
        text,
        is,
        gets,
        λ entries are start last again replay begins.
            let k = replay.history in
            let same = one_entries entries (entries_of h) text are (inr is) in
            let alike = led_alike h k end again (answers_lead script args ticks h k end again ran.run
            replay.run) in
            let (repeats, differs) = is_replayed out out_failed err err_failed h k start last
            (ends_at h (nothing_follows script args ticks h end ran.run)) alike
            (begins ∙ ap whole same) replay.past in
            let (one, ends) = answers_decide script args ticks h k end again ran.run replay.run
            (ap answers_of (sym repeats)) in
            (repeats, sym ends, differs),
      )
