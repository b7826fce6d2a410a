-- What a session is once the step that it lent has ended.
use Rattle.std.specs.Prelude.{◌++◌, ℕ, List, Option, Result, IfOk, IfErr, MatchResult, ⊤}
use Rattle.std.specs.Borrow.{Fml, RattleType, MutBor, follows_so}
use Rattle.std.specs.declared.alloc.Allocator.{Ghosts}
use mathlib.Core.Option.{none}
use Rattle.acts.specs.History.{History}
use Rattle.acts.specs.declared.answer.Answer.{Answer}
use Rattle.machine.specs.Phases.{GivesAgain, MayFail}
use Rattle.engine.specs.Session.{IsAt, IsRefused, answered_so}
use Rattle.engine.specs.Step.{StepIs, TellsNext}
use Rattle.engine.specs.contracts.session.Session.{the_row}
use Rattle.engine.specs.declared.session.Session.{Session}
use Rattle.engine.specs.declared.session.Step.{Step}
use Rattle.memory.specs.declared.NoMemory.{NoMemory}

-- what a call with this answer did: the session is at its next place in the runs, after the act
-- that was asked and this answer to it; and what is given says what comes next
pub record Went {A : Type 0} (old : Session A) (answer : Option (Answer A))
    (r : Result (Step A) NoMemory) (new : Session A) : Type 0 where
  pub at : (text : List ℕ) (args : List (List ℕ)) (limit : ℕ) (past : History) →
      IsAt old text args limit past →
      IfOk r (λ s. IsAt new text args limit (past ++ answered_so old answer))
  pub tells : (text : List ℕ) (args : List (List ℕ)) (limit : ℕ) (past : History) →
      IsAt old text args limit past →
      IfOk r (λ s. TellsNext s text args limit (past ++ answered_so old answer))
  pub given : MatchResult r (λ s. StepIs s new.phase) (λ refusal. IsRefused refusal new)
  pub fails : IfErr r (λ refusal. MayFail old.phase answer)
  pub again : GivesAgain StepIs old.phase r

module _ (A : RattleType) (g : Ghosts A.Denot) (session : MutBor (Session A.Denot)) where
  -- the same, once the step that was lent is given back
  abbrev pub GoesOn : Option (Answer A.Denot) → Result (Step A.Denot) NoMemory → Fml
  GoesOn answer r =
      follows_so (the_row A g) (the_row A g) session.ghost_name none (λ _ _. ⊤)
      (Went session.now answer r)
