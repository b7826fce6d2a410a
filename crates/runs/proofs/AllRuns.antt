-- The laws of all runs, from those of all plans.
use Rattle.std.proofs.Common.{◌∙◌, ℕ, List, [], ◌∷◌, ◌++◌, length, refl, sym, ap₂, arith}
use Rattle.acts.specs.History.{History}
use Rattle.plan.specs.Finished.{RunsOn}
use Rattle.plan.proofs.Answers as plan_answers
use Rattle.plan.proofs.Finished as plan_finished
use Rattle.plan.proofs.Kept as plan_kept
use Rattle.plan.proofs.Paid as plan_paid
use Rattle.runs.specs.Bounds.{BeginsRun, most_acts}
use Rattle.runs.specs.Ending.{Over, numbered}
use Rattle.runs.specs.Laws.{AnswersLead, AnswersDecide, ActsAreBounded, WaitsHold, EachScriptRuns, AnyAnswerLeadsOn}
use Rattle.runs.specs.Run.{whole}
use Rattle.runs.specs.Scripts.{plan_of}
use Rattle.runs.proofs.Finite.{finite}
use Rattle.runs.proofs.Kept.{AnyState, each_keeps}
use Rattle.runs.proofs.Numbered.{told_alike}
use Rattle.runs.proofs.Paid.{price, each_pays}
use Rattle.runs.proofs.Trees.{one_tree}
use Rattle.runs.proofs.Whole.{whole_pays, whole_keeps}
use Rattle.state.specs.Prelude.{worth, IsTree}
use Rattle.state.specs.Rows.{Holds}

pub answers_lead : AnswersLead
answers_lead text args limit h k e f run other =
    let alike = plan_answers.answers_lead plan_of IsTree one_tree (whole text args limit)
    h k run.over other.over run.runs other.runs in
    let told = told_alike numbered h k run.over other.over alike in
    rw (run.ends, other.ends) told

pub answers_decide : AnswersDecide
answers_decide text args limit h k e f run other same =
    let one = plan_answers.answers_decide plan_of IsTree one_tree (whole text args limit)
    h k run.over other.over run.runs other.runs same in
    (one.0, run.ends ∙ ap₂ (λ (l : History) o. numbered (length l) o) one.0 one.1 ∙ sym other.ends)

pub acts_are_bounded : ActsAreBounded
acts_are_bounded text args limit h e run =
    let bound = plan_paid.acts_are_paid_for plan_of IsTree price worth each_pays (λ (o : Over). 0)
    (most_acts limit) (whole text args limit) h run.over (whole_pays text args limit) run.runs in
    omega (arith, bound)

pub waits_hold : WaitsHold
waits_hold text args limit h e run =
    (plan_kept.acts_are_kept plan_of IsTree AnyState Holds (λ (o : Over). Unit {0}) each_keeps
    (whole text args limit) h run.over (whole_keeps text args limit) run.runs).0

-- a beginning of a run of the script's plan is a beginning of a run of the script
goes_from : (text : List ℕ) (args : List (List ℕ)) (limit : ℕ) (h : History) →
    RunsOn plan_of IsTree (whole text args limit) h → BeginsRun text args limit h
goes_from text args limit h on = record {
  rest = on.rest;
  ending = numbered (length (h ++ on.rest)) on.result;
  run = record { over = on.result; runs = on.runs; ends = refl };
}

-- and a beginning of a run of the script is one of a run of its plan
runs_from : (text : List ℕ) (args : List (List ℕ)) (limit : ℕ) (h : History) →
    BeginsRun text args limit h → RunsOn plan_of IsTree (whole text args limit) h
runs_from text args limit h goes =
    record { rest = goes.rest; result = goes.run.over; runs = goes.run.runs }

pub each_script_runs : EachScriptRuns
each_script_runs text args limit =
    goes_from text args limit [] (plan_finished.each_plan_runs finite (whole text args limit))

pub any_answer_leads_on : AnyAnswerLeadsOn
any_answer_leads_on text args limit h act reply other goes =
    goes_from text args limit (h ++ ((act, other) ∷ []))
    (plan_finished.any_answer_leads_on finite (whole text args limit) h act reply other
    (runs_from text args limit (h ++ ((act, reply) ∷ [])) goes))

pub ruleset finished_runs = (
  each_script_runs,
  any_answer_leads_on,
)
