-- A run in a world, up to its end or up to where memory was refused.
use Rattle.std.specs.Prelude.{⊤, ℕ, Bool, List, Option, Result, MatchResult, Vec}
use Rattle.memory.specs.declared.NoMemory.{NoMemory as Refusal}
use Rattle.acts.specs.Deed.{Deed, Reply}
use Rattle.acts.specs.History.{History}
use Rattle.engine.specs.Prelude.{Began, End, Ran, ending_of, words_of}
use Rattle.recorders.specs.Recorder.{Begins, MayRecord}

-- who watches a run may have come from before to after by being told these acts with their answers;
-- `told` says how such a one changes
abbrev pub Heard : {T : Type 0} → (told : T → History → T → Type 0) → (before after : T) →
    History → Type 0
Heard told before after history = told before history after

-- nobody watches
abbrev pub unheard : History → Type 0
unheard history = ⊤

-- `Step` says how a world changes by an act with an answer, `heard` whether these acts and answers
-- may be what who watches was told: each once and in order, and nothing else.
module _ {V : Type 0} (Step : V → Deed → Reply → V → Type 0) (heard : History → Type 0)
    {A : Type 0} (script : List ℕ) (args : List (Vec ℕ A)) (ticks : ℕ) where
  -- the acts and the end are those of the definition for the answers of the world, or, where memory
  -- was refused, the acts are a beginning of those; who watches was told them
  abbrev pub Runs : V → V → Result (End A) Refusal → Type 0
  Runs first last ended =
      MatchResult ended
      (λ end. (ran : Ran Step first last script (words_of args) ticks (ending_of end))
      × heard ran.history)
      (λ _. (began : Began Step first last script (words_of args) ticks) × heard began.history)

-- `adds` says whether a write may lead from one state of a sink to another and add these bytes,
-- `failed` whether the sink has failed.
module _ {V S : Type 0} (Step : V → Deed → Reply → V → Type 0) (adds : S → List ℕ → S → Type 0)
    (failed : S → Bool) (heard : History → Type 0) {A : Type 0} (script : List ℕ)
    (args : List (Vec ℕ A)) (ticks : ℕ) where
  -- the same, where a record of the run is made if there is a sink for it
  abbrev pub RunsRecorded : V → Option S → V → Option S → Result (End A) Refusal → Type 0
  RunsRecorded first empty last kept ended =
      (begun : Option S) × Begins adds failed empty begun
      × Runs (MayRecord Step adds failed) heard script args ticks (first, begun) (last, kept) ended
