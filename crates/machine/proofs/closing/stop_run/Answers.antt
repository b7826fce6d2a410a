use Rattle.std.proofs.Common.{refl, rules, subst, w64}
use Rattle.std.proofs.lemmas.Int.{to_z-of_z}
use mir.Val.{SFits}
use Rattle.steps.specs.Goes.{here}
use Rattle.machine.specs.Phases.{Stands}
use Rattle.runs.specs.Closing.{ends_with}
use Rattle.runs.specs.Ending as ending
use Rattle.runs.specs.Ending.{Unfit, With}
use Rattle.machine.proofs.closing.stop_run.Goals as goal

pub returns-in-Exit-clause-stands : goal.returns-in-Exit-clause-stands
returns-in-Exit-clause-stands g c = λ frames last s fits.
    let within : SFits w64 c.in-Exit.status = search rules in
    rw c.in-Exit.is
    (subst (λ status. Stands last c.close_next.result frames c.close_next.new.state c.args.answers
    (ends_with (ending.Exit status) s)) (to_z-of_z w64 c.in-Exit.status within)
    (c.close_next.ensures.stands frames last s c.args.answers fits))

pub returns-in-BadAnswer-clause-stands : goal.returns-in-BadAnswer-clause-stands
returns-in-BadAnswer-clause-stands g c = λ frames last s fits. rw c.in-BadAnswer.is (record {
  status = s;
  fits = fits;
  plan = _;
  is_plan = (Unfit, refl, refl);
  goes = here;
})

pub returns-in-NoMore-clause-stands : goal.returns-in-NoMore-clause-stands
returns-in-NoMore-clause-stands g c = λ frames last s fits. rw c.in-NoMore.is (record {
  status = s;
  fits = fits;
  plan = _;
  is_plan = (With ending.NoMore, refl, refl);
  goes = here;
})
