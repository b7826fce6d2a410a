-- Runs in a world, seen as runs in a part of it.
use Rattle.std.proofs.Common.{◌≡◌, ℕ, Bool, List, [], ◌∷◌, Option, Some, None, Result, Ok, Err, IfOk, IfErr, Vec, refl, sym, ap, ◌∙◌}
use Rattle.memory.specs.declared.NoMemory.{NoMemory as Refusal}
use Rattle.acts.specs.Deed.{Deed, Reply}
use Rattle.acts.specs.History.{History, Past}
use Rattle.engine.specs.Prelude.{Began, End, Ending, Ran, ending_of, words_of}
use Rattle.recorders.specs.Recorder.{MayRecord, Notes}
use Rattle.engine.specs.Watching.{BeganTold, RanTold}
use Rattle.worlds.specs.Runs.{Heard, Runs, RunsRecorded}

-- `see` takes each step of a world to a step of the part of it that is seen
module _ {W V : Type 0} (S : W → Deed → Reply → W → Type 0) (T : V → Deed → Reply → V → Type 0)
    (see : W → V)
    (steps : (before : W) (act : Deed) (reply : Reply) (after : W) → S before act reply after →
    T (see before) act reply (see after)) where
  pub past_seen : (first now : W) (h : History) → Past S first now h → Past T (see first) (see now) h
  past_seen first now [] is = ap see is
  past_seen first now (pair ∷ h) (mid, step, past) =
      (see mid, steps first pair.0 pair.1 mid step, past_seen mid now h past)

  module _ (heard : History → Type 0) {A : Type 0} (script : List ℕ) (args : List (Vec ℕ A))
      (ticks : ℕ) (first now : W) where
    pub runs_seen : (ended : Result (End A) Refusal) →
        Runs S heard script args ticks first now ended →
        Runs T heard script args ticks (see first) (see now) ended
    runs_seen (Ok end) (ran, hears) = (
      record {
        history = ran.history;
        past = past_seen first now ran.history ran.past;
        run = ran.run;
        holds = ran.holds;
      },
      hears,
    )
    runs_seen (Err refusal) (began, hears) = (
      record {
        history = began.history;
        past = past_seen first now began.history began.past;
        rest = began.rest;
        ending = began.ending;
        run = began.run;
        holds = began.holds;
      },
      hears,
    )

-- the same of a run of which a record may be made
pub recorded_seen : {W V S A : Type 0} (Step : W → Deed → Reply → W → Type 0)
    (Part : V → Deed → Reply → V → Type 0) (see : W → V)
    (steps : (before : W) (act : Deed) (reply : Reply) (after : W) → Step before act reply after →
    Part (see before) act reply (see after))
    (adds : S → List ℕ → S → Type 0) (failed : S → Bool) (heard : History → Type 0)
    (script : List ℕ) (args : List (Vec ℕ A)) (ticks : ℕ) (first now : W) (empty kept : Option S)
    (ended : Result (End A) Refusal) →
    RunsRecorded Step adds failed heard script args ticks first empty now kept ended →
    RunsRecorded Part adds failed heard script args ticks (see first) empty (see now) kept ended
recorded_seen Step Part see steps adds failed heard script args ticks first now empty kept ended
    (begun, begins, runs) = (
      begun,
      begins,
      runs_seen (MayRecord Step adds failed) (MayRecord Part adds failed)
          (λ pair. (see pair.0, pair.1))
          (λ before act reply after step. (steps before.0 act reply after.0 step.0, step.1))
          heard script args ticks (first, begun) (now, kept) ended runs,
    )

-- each step of a world keeps what `name` reads from it
module _ {W N : Type 0} (S : W → Deed → Reply → W → Type 0) (name : W → N)
    (kept : (before : W) (act : Deed) (reply : Reply) (after : W) → S before act reply after →
    name after ≡ name before) where
  past_kept : (first now : W) (h : History) → Past S first now h → name now ≡ name first
  past_kept first now [] is = ap name (sym is)
  past_kept first now (pair ∷ h) (mid, step, past) =
      past_kept mid now h past ∙ kept first pair.0 pair.1 mid step

  pub runs_kept : (heard : History → Type 0) {A : Type 0} (script : List ℕ)
      (args : List (Vec ℕ A)) (ticks : ℕ) (first now : W) (ended : Result (End A) Refusal) →
      Runs S heard script args ticks first now ended → name now ≡ name first
  runs_kept heard script args ticks first now (Ok end) (ran, hears) =
      past_kept first now ran.history ran.past
  runs_kept heard script args ticks first now (Err refusal) (began, hears) =
      past_kept first now began.history began.past

-- what is known of the result of a run that someone watches, as one fact
pub heard_of : {W T A : Type 0} (S : W → Deed → Reply → W → Type 0)
    (told : T → History → T → Type 0) (script : List ℕ) (args : List (Vec ℕ A)) (ticks : ℕ)
    (first now : W × T) (ended : Result (End A) Refusal) →
    IfOk ended (λ end. RanTold S told first now script (words_of args) ticks (ending_of end)) →
    IfErr ended (λ _. BeganTold S told first now script (words_of args) ticks) →
    Runs S (Heard told first.1 now.1) script args ticks first.0 now.0 ended
heard_of S told script args ticks first now (Ok end) ran began = ran
heard_of S told script args ticks first now (Err refusal) ran began = began

-- a run of which a record may be made is a run of the world
module _ {V S : Type 0} (Step : V → Deed → Reply → V → Type 0) (adds : S → List ℕ → S → Type 0)
    (failed : S → Bool) (heard : History → Type 0) where
  pub runs_alone : {A : Type 0} (script : List ℕ) (args : List (Vec ℕ A)) (ticks : ℕ)
      (first now : V × Option S) (ended : Result (End A) Refusal) →
      Runs (MayRecord Step adds failed) heard script args ticks first now ended →
      Runs Step heard script args ticks first.0 now.0 ended
  runs_alone script args ticks first now ended runs =
      runs_seen (MayRecord Step adds failed) Step (λ pair. pair.0)
      (λ before act reply after step. step.0) heard script args ticks first now ended runs

  -- where no record was begun, none was made
  still_none : (before after : Option S) (act : Deed) (reply : Reply) → before ≡ None →
      Notes adds failed before act reply after → after ≡ None
  still_none before after act reply none noted = rw none at noted

  none_made : (h : History) (first now : V × Option S) → first.1 ≡ None →
      Past (MayRecord Step adds failed) first now h → now.1 ≡ None
  none_made [] first now none same = ap (λ pair. pair.1) (sym same) ∙ none
  none_made (pair ∷ h) first now none (mid, (step, noted), past) =
      none_made h mid now (still_none first.1 mid.1 pair.0 pair.1 none noted) past

  pub none_kept : {A : Type 0} (script : List ℕ) (args : List (Vec ℕ A)) (ticks : ℕ)
      (first now : V × Option S) (ended : Result (End A) Refusal) → first.1 ≡ None →
      Runs (MayRecord Step adds failed) heard script args ticks first now ended → now.1 ≡ None
  none_kept script args ticks first now (Ok end) none (ran, hears) =
      none_made ran.history first now none ran.past
  none_kept script args ticks first now (Err refusal) none (began, hears) =
      none_made began.history first now none began.past
