-- A session among the runs of its script.
use Rattle.std.proofs.Common.{◌≡◌, ◌∙◌, ℕ, ◌+◌, ◌^◌, ◌<◌, ◌≤◌, ◌⊎◌, inl, inr, List, [], ◌∷◌, ◌++◌, length, Option, Some, None, sum_by, refl, sym, ap, subst, arith}
use Rattle.std.proofs.lemmas.List.{append-nil, length-append}
use Rattle.std.proofs.lemmas.List.Sums.{sum_by-cons}
use Rattle.state.specs.Prelude.{Deed, Reply, deed_of, reply_of, Ends, Asks, Dialogue, IsTree, Status}
use Rattle.acts.specs.Deed as said
use Rattle.acts.specs.History.{History}
use Rattle.acts.specs.declared.act.Act.{Act}
use Rattle.acts.specs.declared.answer.Answer.{Answer}
use Rattle.acts.specs.declared.row.Row.{Row}
use Rattle.machine.specs.Frames.{Onward, stack}
use Rattle.machine.specs.Phases.{IsPlan, IsTold, after_acts, deed_in, paired}
use Rattle.machine.specs.Below.{StandsOver}
use Rattle.engine.specs.Session.{IsAt, AsksFirst, EndsSo, Tells}
use Rattle.engine.specs.Step.{AsksFor}
use Rattle.machine.specs.View.{ending_of}
use Rattle.machine.specs.declared.closing.Closing.{Closing}
use Rattle.machine.specs.declared.frame.Frame.{Frame}
use Rattle.machine.specs.declared.phase.Phase.{Phase}
use Rattle.machine.specs.declared.phase.Phase.TheVariants as phase
use Rattle.engine.specs.declared.session.Session.{Session}
use Rattle.machine.specs.declared.waits.Waits.{Waits}
use Rattle.machine.proofs.Silent.{goes_exact}
use Rattle.plan.specs.Exact.{Same, Begins, Rests}
use Rattle.plan.specs.Runs.{Runs, ends}
use Rattle.plan.proofs.Exact as exact
use Rattle.plan.proofs.Exact.{then_same}
use Rattle.plan.proofs.Finished.{each_plan_runs}
use Rattle.plan.proofs.Kept.{throughout_at}
use Rattle.runs.specs.Bounds.{BeginsRun, most_acts}
use Rattle.runs.specs.Ending.{Ending, Over, numbered}
use Rattle.runs.specs.Run.{Run, whole}
use Rattle.runs.specs.Scripts.{plan_of}
use Rattle.runs.proofs.AllRuns.{acts_are_bounded, waits_hold}
use Rattle.runs.proofs.Finite.{finite}
use Rattle.state.specs.Rows.{HoldTogether, Holds, RowsHold}

-- rows that each hold at most their size together hold at most the sum of the sizes
rows_together : (rows : List Row) → RowsHold rows →
    sum_by (λ r. r.held) rows ≤ sum_by (λ r. r.max) rows
rows_together [] hold = omega arith
rows_together (row ∷ rows) hold =
    let here = hold.0 in
    let rest = rows_together rows hold.1 in
    let held = sum_by-cons (λ r. r.held) row rows in
    let allowed = sum_by-cons (λ r. r.max) row rows in
    omega (arith, here, rest, held, allowed)

hold_together : (deed : Deed) → Holds deed → HoldTogether deed
hold_together (said.Wait rows timer) hold = rows_together rows hold
hold_together (said.Out bytes) hold = tt
hold_together (said.Err bytes) hold = tt
hold_together (said.Log bytes) hold = tt
hold_together (said.Send id bytes) hold = tt
hold_together (said.Spawn id words) hold = tt
hold_together (said.Connect id host port) hold = tt
hold_together (said.OpenLog name mode) hold = tt
hold_together (said.Close id) hold = tt
hold_together (said.Sleep seconds) hold = tt
hold_together said.CloseLog hold = tt
hold_together (said.Reap id) hold = tt

-- the remaining runs of a script are those of a plan
abbrev pub IsLeft : Dialogue Over → List ℕ → List (List ℕ) → ℕ → History → Type 0
IsLeft plan text args limit past =
    Same (Runs plan_of IsTree plan) (Rests Over plan_of IsTree (whole text args limit) past)

module _ (text : List ℕ) (args : List (List ℕ)) (limit : ℕ) (past : History) where
  -- some run goes on from there
  pub left_goes : (plan : Dialogue Over) → IsLeft plan text args limit past →
      BeginsRun text args limit past
  left_goes plan left =
      let on = each_plan_runs finite plan in
      record {
        rest = on.rest;
        ending = numbered (length (past ++ on.rest)) on.result;
        run = record {
          over = on.result;
          runs = left.onto on.rest on.result on.runs;
          ends = refl;
        };
      }

  -- so the acts so far are bounded
  pub left_bounded : (plan : Dialogue Over) → IsLeft plan text args limit past →
      length past ≤ most_acts limit
  left_bounded plan left =
      let goes = left_goes plan left in
      let bound = acts_are_bounded text args limit (past ++ goes.rest) goes.ending goes.run in
      let sum = length-append past goes.rest in
      omega (arith, bound, sum)

  -- nothing changes with no further act and answer
  none_more : (plan : Dialogue Over) → IsLeft plan text args limit past →
      IsLeft plan text args limit (past ++ [])
  none_more plan left = subst (λ h. IsLeft plan text args limit h) (sym (append-nil past)) left

  -- one more act and its answer
  one_more : (plan : Dialogue Over) (deed : Deed) (next : Reply → Dialogue Over) (reply : Reply) →
      plan ≡ Asks deed next → IsLeft plan text args limit past →
      IsLeft (after_acts plan ((deed, reply) ∷ [])) text args limit (past ++ (deed, reply) ∷ [])
  one_more plan deed next reply is left =
      let on : IsLeft (Asks deed next) text args limit past =
      subst (λ p. IsLeft p text args limit past) is left in
      subst (λ p. IsLeft (after_acts p ((deed, reply) ∷ [])) text args limit
      (past ++ (deed, reply) ∷ [])) (sym is)
      (exact.answered plan_of IsTree (whole text args limit) past deed next reply on)

  module _ {A : Type 0} where
    -- the remaining runs after the act that waits, where it is answered
    pub left_behind : (last : Onward) (at : Phase A) (answer : Option (Answer A))
        (frames : List (Frame A)) (s : Status) (answers : ℕ) (plan : Dialogue Over) →
        IsPlan last at frames s answers plan → IsLeft plan text args limit past →
        IsLeft (after_acts plan (paired (deed_in at) answer)) text args limit
        (past ++ paired (deed_in at) answer)
    left_behind last (phase.Has outcome) answer frames s answers plan is left = none_more plan left
    left_behind last (phase.Asks act waits) None frames s answers plan is left = none_more plan left
    left_behind last (phase.Asks act waits) (Some answer) frames s answers plan is left =
        one_more plan (deed_of act) _ (reply_of answer) is left
    left_behind last (phase.Closes act c) None frames s answers plan is left = none_more plan left
    left_behind last (phase.Closes act c) (Some answer) frames s answers plan is left =
        one_more plan (deed_of act) _ (reply_of answer) is left
    left_behind last (phase.Over end) answer frames s answers plan is left = none_more plan left
    left_behind last (phase.Refused refusal) answer frames s answers plan is left = absurd is

  -- each remaining run begins with the act at hand
  act_is_first : (plan : Dialogue Over) (deed : Deed) (next : Reply → Dialogue Over) →
      plan ≡ Asks deed next → IsLeft plan text args limit past →
      (h : History) (e : Ending) → Run text args limit (past ++ h) e →
      Begins deed (λ reply rest. Run text args limit (past ++ (deed, reply) ∷ rest) e) h
  act_is_first plan deed next is left h e run =
      let on : Runs plan_of IsTree (Asks deed next) h run.over =
      subst (λ p. Runs plan_of IsTree p h run.over) is (left.back h run.over run.runs) in
      let first = exact.act_comes_first plan_of IsTree deed next h run.over on in
      record {
        reply = first.reply;
        rest = first.rest;
        is = first.is;
        follows = subst (λ k. Run text args limit (past ++ k) e) first.is run;
      }

  asks_first : (plan : Dialogue Over) (deed : Deed) (next : Reply → Dialogue Over) →
      plan ≡ Asks deed next → IsLeft plan text args limit past →
      AsksFirst deed text args limit past
  asks_first plan deed next is left =
      let goes = left_goes plan left in
      let first = act_is_first plan deed next is left goes.rest goes.ending goes.run in
      let throughout = waits_hold text args limit (past ++ (deed, first.reply) ∷ first.rest)
      goes.ending first.follows in
      let holds = throughout_at Holds past (deed, first.reply) first.rest throughout in
      record {
        goes = goes;
        first = act_is_first plan deed next is left;
        holds = holds;
        together = hold_together deed holds;
      }

  -- a plan that is over leaves one run, which has no act more
  ends_so : (plan : Dialogue Over) (over : Over) (ending : Ending) (answers : ℕ) →
      plan ≡ Ends over → ending ≡ numbered answers over → answers ≡ length past →
      IsLeft plan text args limit past → EndsSo ending text args limit past
  ends_so plan over ending answers is told count left = λ h e.
      let at_end : IsLeft (Ends over) text args limit past =
      subst (λ p. IsLeft p text args limit past) is left in (
        λ run.
            let on = (exact.end_is_exact plan_of IsTree over).back h run.over
            (at_end.back h run.over run.runs) in
            let same : length (past ++ h) ≡ answers =
            ap (λ k. length (past ++ k)) on.0 ∙ ap length (append-nil past) ∙ sym count in (
              on.0,
              run.ends ∙ ap (λ n. numbered n run.over) same ∙ ap (λ o. numbered answers o) on.1
                  ∙ sym told,
            ),
        λ both.
            let run : Runs plan_of IsTree (whole text args limit) (past ++ []) over =
            at_end.onto [] over ends in
            let same : answers ≡ length (past ++ h) =
            count ∙ sym (ap length (append-nil past)) ∙ ap (λ k. length (past ++ k)) (sym both.0) in
            record {
              over = over;
              runs = subst (λ k. Runs plan_of IsTree (whole text args limit) (past ++ k) over)
                  (sym both.0) run;
              ends = both.1 ∙ told ∙ ap (λ n. numbered n over) same;
            },
      )

  -- what a phase says of the remaining runs
  pub tells : {A : Type 0} (last : Onward) (at : Phase A) (frames : List (Frame A)) (s : Status)
      (answers : ℕ) (plan : Dialogue Over) → IsTold at → IsPlan last at frames s answers plan →
      answers ≡ length past → IsLeft plan text args limit past → Tells at text args limit past
  tells last (phase.Has outcome) frames s answers plan told is count left = absurd told
  tells last (phase.Asks act waits) frames s answers plan told is count left =
      asks_first plan (deed_of act) _ is left
  tells last (phase.Closes act c) frames s answers plan told is count left =
      asks_first plan (deed_of act) _ is left
  tells last (phase.Over end) frames s answers plan told is count left =
      ends_so plan is.0 (ending_of end) answers is.1 is.2 count left
  tells last (phase.Refused refusal) frames s answers plan told is count left = absurd told

module _ {A : Type 0} (session : Session A) (text : List ℕ) (args : List (List ℕ)) (limit : ℕ)
    (past : History) (at : IsAt session text args limit past) where
  -- the number of the next answer fits 64 bits
  pub counts_on : session.answers + 1 < 2 ^ 64
  counts_on =
      let bound = left_bounded text args limit past at.plan at.exact in
      let most = at.allowed.1 in
      let count = at.answers in
      omega (arith, bound, most, count)

-- what the place of a session says of the remaining runs
pub session_tells : {A : Type 0} (session : Session A) (text : List ℕ) (args : List (List ℕ))
    (limit : ℕ) (past : History) → IsTold session.phase →
    IsAt session text args limit past → Tells session.phase text args limit past
session_tells session text args limit past told at =
    tells text args limit past at.last session.phase
    (stack session.running.frames) at.status session.answers
    at.plan told at.is_plan at.answers at.exact

-- the act that is asked is one of a command, or one that closes the run
pub either_asks : {A : Type 0} (at : Phase A) (act : Act A) (text : List ℕ)
    (args : List (List ℕ)) (limit : ℕ) (past : History) →
    ((waits : Waits A) × (at ≡ phase.Asks act waits))
    ⊎ ((c : Closing A) × (at ≡ phase.Closes act c)) →
    Tells at text args limit past → AsksFirst (deed_of act) text args limit past
either_asks at act text args limit past (inl is) told =
    subst (λ p. Tells p text args limit past) is.1 told
either_asks at act text args limit past (inr is) told =
    subst (λ p. Tells p text args limit past) is.1 told

pub either_given : {A : Type 0} (at : Phase A) (act : Act A) →
    ((waits : Waits A) × (at ≡ phase.Asks act waits))
    ⊎ ((c : Closing A) × (at ≡ phase.Closes act c)) → AsksFor at act
either_given at act (inl is) = subst (λ p. AsksFor p act) (sym is.1) refl
either_given at act (inr is) = subst (λ p. AsksFor p act) (sym is.1) refl

-- a session that continued is at its next place
pub went_on : {A : Type 0} (old new : Session A) (text : List ℕ) (args : List (List ℕ)) (limit : ℕ)
    (past : History) (answer : Option (Answer A)) → (at : IsAt old text args limit past) →
    StandsOver new.running new.phase new.state new.answers
    (after_acts at.plan (paired (deed_in old.phase) answer)) →
    new.answers ≡ old.answers + length (paired (deed_in old.phase) answer) →
    IsAt new text args limit (past ++ paired (deed_in old.phase) answer)
went_on old new text args limit past answer at stands count =
    let more = paired (deed_in old.phase) answer in
    let sum = length-append past more in
    let before = at.answers in
    record {
      allowed = at.allowed;
      answers = omega (arith, count, sum, before);
      status = stands.stands.status;
      fits = stands.stands.fits;
      last = stands.last;
      below = stands.below;
      plan = stands.stands.plan;
      is_plan = stands.stands.is_plan;
      exact = then_same (goes_exact stands.stands.goes)
          (left_behind text args limit past at.last old.phase answer (stack old.running.frames)
          at.status old.answers at.plan at.is_plan at.exact);
    }
