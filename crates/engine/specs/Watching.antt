-- Runs that someone watches.
use Rattle.std.specs.Prelude.{ℕ, List}
use Rattle.acts.specs.Deed.{Deed, Reply}
use Rattle.acts.specs.History.{History}
use Rattle.runs.specs.Ending.{Ending}
use Rattle.runs.specs.Run.{Began, Ran}

-- `Step` says how a world changes by an act with an answer, `told` how who watches changes by being
-- told acts with their answers.
module _ {W T : Type 0} (Step : W → Deed → Reply → W → Type 0) (told : T → History → T → Type 0)
    (first last : W × T) (text : List ℕ) (args : List (List ℕ)) (limit : ℕ) where
  -- some acts and answers led the world from first to last and are those of a run with this end,
  -- and who watches was told these: each act with its answer, once and in order, and nothing else
  abbrev pub RanTold : Ending → Type 0
  RanTold e =
      (ran : Ran Step first.0 last.0 text args limit e) × told first.1 ran.history last.1

  -- the same of acts and answers with which a run begins
  abbrev pub BeganTold : Type 0
  BeganTold =
      (began : Began Step first.0 last.0 text args limit) × told first.1 began.history last.1
