-- Commands that are over at once, in the run of a code.
use Rattle.std.proofs.Common.{◌≡◌, ◌∙◌, ℕ, ◌+◌, ◌-◌, ◌*◌, ◌≤◌, List, ◌∷◌, length, None, Result, refl, sym, ap, subst, arith}
use Rattle.std.proofs.Math.Nat.{mul-le-mul_right}
use Rattle.code.specs.declared.instruction.Instruction.{Instruction}
use Rattle.commands.specs.Commands as plain
use Rattle.nesting.specs.Commands.{named}
use Rattle.expects.specs.Words.{named as form_of}
use Rattle.plan.specs.Plan.{and_then, onward}
use Rattle.runs.specs.Commands.{command}
use Rattle.runs.specs.Ending.{Over as Ended}
use Rattle.state.specs.Prelude.{Course, Dialogue, Outcome, Reaches, Status, FitsState, outcome_of}
use Rattle.state.specs.Reaches as words_reach
use Rattle.state.specs.declared.outcome.Leave.{Leave}
use Rattle.state.specs.declared.state.State.{State}
use Rattle.steps.specs.Follows.{Follows, Resumes}
use Rattle.steps.specs.Goes.{Goes, here, reads}
use Rattle.steps.specs.Handling.{resumed}
use Rattle.steps.specs.Run.{Awaits, HasCome, HasStopped, IsDone, most_commands}
use Rattle.steps.specs.Spot.{Did, Begins, Says, Runs, Evaluates}
use Rattle.steps.specs.View.{IsCall, below_words, did_of, spot_of, stop_of, text_in, words_of}
use Rattle.steps.specs.declared.progress.Progress.{Progress}
use Rattle.steps.specs.declared.progress.Progress.TheVariants as went
use Rattle.steps.specs.declared.run.Run.{Run}
use Rattle.steps.specs.declared.spot.Spot.{Spot}
use Rattle.steps.proofs.Leads.Silent.{then_goes}
use Rattle.steps.proofs.Leads.Standing.{silently}
use Rattle.tclstate.specs.Pairs.{found}

-- what is no procedure, runs no script and takes no branches is a plain command
pub command_plain : (levels : ℕ) (s : Status) (name : List ℕ) (args : List (List ℕ)) →
    found s.procedures name ≡ None → named name ≡ None → form_of name ≡ None →
    command levels s (name ∷ args) ≡ plain.command s (name ∷ args)
command_plain levels s name args undefined unknown unformed =
    rw (undefined, unknown, unformed) refl

-- a course that continues as another by reading texts does so with what follows it
pub reaches_goes : {X : Type 0} {p q : Course} (next : Status → Outcome → Dialogue X) →
    Reaches p q → Goes (and_then p (onward next)) (and_then q (onward next))
reaches_goes next words_reach.here = here
reaches_goes next (words_reach.reads tree is a) = reads tree is (reaches_goes next a)

module _ {A X : Type 0} (code : List (Instruction A)) (last : Status → Outcome → Dialogue X) where
  -- what an instruction did is what was left to be done before some silent steps
  pub follows_after : (did : Did) (p q : Dialogue X) → Goes p q → Follows code last did q →
      Follows code last did p
  follows_after did p q goes follows = silently code last did goes follows

-- the run of a code has come to where it waits for an outcome: for some state of the definition
-- that the code's state fits, the dialogue continues as what is left to be done with it
pub record Stood {A : Type 0} (last : Status → Outcome → Dialogue Ended) (run : Run A)
    (state : State A) (o : Outcome) (p : Dialogue Ended) : Type 0 where
  pub next : Status → Outcome → Dialogue Ended
  pub status : Status
  pub fits : FitsState state status
  pub awaits : Awaits last run next
  pub goes : Goes p (next status o)

module _ {A : Type 0} (last : Status → Outcome → Dialogue Ended) where
  -- where it comes to, it comes to after all that was done before
  pub comes_after : (progress : Progress) (run : Run A) (state : State A) (p q : Dialogue Ended) →
      Goes p q → HasCome last progress run state q → HasCome last progress run state p
  comes_after progress run state p q goes came = record {
    status = came.status;
    fits = came.fits;
    stops = came.stops;
    follows = follows_after run.code.value.items last (did_of progress run.spot came.status) p q
        goes came.follows;
  }

  -- where nothing begins it has stopped there
  pub over_stops : (progress : Progress) (run : Run A) (state : State A) (p : Dialogue Ended) →
      (IsCall progress → ⊥) → HasCome last progress run state p →
      HasStopped last progress run state p
  over_stops went.GoesOn run state p other came = absurd (came.stops refl)
  over_stops went.Begins run state p other came = absurd (other tt)
  over_stops went.Says run state p other came = absurd (other tt)
  over_stops went.Runs run state p other came = absurd (other tt)
  over_stops went.Evaluates run state p other came = absurd (other tt)
  over_stops went.Over run state p other came = record {
    status = came.status;
    fits = came.fits;
    stops = came.stops;
    follows = came.follows;
  }
  over_stops went.Stuck run state p other came = absurd came.follows

  -- and where something begins, once its words are taken off the operands
  taken_off : (progress : Progress) (run : Run A) (spot : Spot A) (s : Status)
      (p : Dialogue Ended) → IsCall progress → spot.words.items ≡ words_of run.spot →
      spot_of spot ≡ below_words run.spot →
      Follows run.code.value.items last (did_of progress run.spot s) p →
      Follows run.code.value.items last (stop_of progress spot s) p
  taken_off went.GoesOn run spot s p is words stands follows = absurd is
  taken_off went.Begins run spot s p is words stands follows =
      let code = run.code.value.items in
      subst (λ ws. Follows code last (Begins ws (spot_of spot) s) p) (sym words)
      (subst (λ at. Follows code last (Begins (words_of run.spot) at s) p) (sym stands) follows)
  taken_off went.Says run spot s p is words stands follows =
      let code = run.code.value.items in
      subst (λ ws. Follows code last (Says ws (spot_of spot) s) p) (sym words)
      (subst (λ at. Follows code last (Says (words_of run.spot) at s) p) (sym stands) follows)
  taken_off went.Runs run spot s p is words stands follows =
      let code = run.code.value.items in
      subst (λ ws. Follows code last (Runs (text_in ws) (spot.levels - 1) (spot_of spot) s) p)
      (sym words)
      (subst (λ at. Follows code last (Runs (text_in (words_of run.spot)) (at.levels - 1) at s) p)
      (sym stands) follows)
  taken_off went.Evaluates run spot s p is words stands follows =
      let code = run.code.value.items in
      subst (λ ws. Follows code last (Evaluates (text_in ws) (spot_of spot) s) p) (sym words)
      (subst (λ at. Follows code last (Evaluates (text_in (words_of run.spot)) at s) p) (sym stands)
      follows)
  taken_off went.Over run spot s p is words stands follows = absurd is
  taken_off went.Stuck run spot s p is words stands follows = absurd is

  pub begun_stops : (progress : Progress) (run : Run A) (spot : Spot A) (old new : State A)
      (p : Dialogue Ended) → IsCall progress →
      (came : HasCome last progress run old p) → FitsState new came.status →
      spot.words.items ≡ words_of run.spot → spot_of spot ≡ below_words run.spot →
      HasStopped last progress (record run { spot = spot }) new p
  begun_stops progress run spot old new p is came fits words stands = record {
    status = came.status;
    fits = fits;
    stops = came.stops;
    follows = taken_off progress run spot came.status p is words stands came.follows;
  }

  -- a command is over at once, and the run waits for its outcome no longer
  pub done_stands : (run : Run A) (spot : Spot A) (old new : State A)
      (done : Result (List ℕ) (Leave A)) (p : Dialogue Ended) →
      (came : HasCome last went.Begins run old p) → spot_of spot ≡ below_words run.spot →
      IsDone (command run.spot.levels came.status (words_of run.spot)) done new →
      Stood last (record run { spot = spot }) new (outcome_of done) p
  done_stands run spot old new done p came stands over =
      let waits = came.follows in
      record {
        next = waits.next;
        status = over.status;
        fits = over.fits;
        awaits = λ t outcome. subst (λ at. Resumes run.code.value.items last
            (resumed at outcome t) (waits.next t outcome)) (sym stands)
            (waits.resumes t outcome);
        goes = then_goes waits.goes (reaches_goes waits.next over.reaches);
      }

-- at the same place of the same code as many commands may begin
pub same_commands : {A : Type 0} (run new : Run A) (left : ℕ) →
    new.code.value.items ≡ run.code.value.items → new.spot.place ≡ run.spot.place →
    most_commands new left ≡ most_commands run left
same_commands run new left code place =
    ap (λ items. left * (length items + 1) + (length items - new.spot.place)) code
    ∙ ap (λ n. left * (length run.code.value.items + 1) + (length run.code.value.items - n)) place

-- with fewer ticks no more commands may begin at the same place
pub fewer_commands : {A : Type 0} (run : Run A) (spot : Spot A) (left now : ℕ) → now ≤ left →
    spot.place ≡ run.spot.place →
    most_commands (record run { spot = spot }) now ≤ most_commands run left
fewer_commands run spot left now fewer place =
    let size = length run.code.value.items + 1 in
    let product : now * size ≤ left * size = mul-le-mul_right size fewer in
    omega (arith, product, place)
