use Rattle.std.proofs.Common.{ap, subst}
use Rattle.acts.specs.Deed.{reply_of}
use Rattle.machine.specs.Frames.{stack}
use Rattle.machine.specs.Phases.{IsPlan, after_reply}
use Rattle.machine.proofs.Below.{stands_over_from}
use Rattle.machine.proofs.Machines.{on_ok}
use Rattle.steps.proofs.Leads.Silent.{same_goes}
use Rattle.steps.specs.Goes.{here}
use Rattle.machine.proofs.answering.forward.Goals as goal

pub returns-in-None-clause-stands : goal.returns-in-None-clause-stands
returns-in-None-clause-stands g c = λ last s p small fits below is.
    rw (c.in-Asks.is, c.in-None.is) (record {
      last = last;
      below = below;
      stands = record {
        status = s;
        fits = fits;
        plan = p;
        is_plan = subst (λ phase.
            IsPlan last phase (stack c.args.running.now.frames) s c.args.answers.now p)
            c.in-Asks.is is;
        goes = here;
      };
    })

pub returns-in-None-answer-clause-stands : goal.returns-in-None-answer-clause-stands
returns-in-None-answer-clause-stands g c = λ last s p small fits below is.
    rw (c.in-Closes.is, c.in-None-answer.is) (record {
      last = last;
      below = below;
      stands = record {
        status = s;
        fits = fits;
        plan = p;
        is_plan = subst (λ phase.
            IsPlan last phase (stack c.args.running.now.frames) s c.args.answers.now p)
            c.in-Closes.is is;
        goes = here;
      };
    })

pub returns-in-Over-clause-stands : goal.returns-in-Over-clause-stands
returns-in-Over-clause-stands g c = λ last s p small fits below is. rw c.in-Over.is (record {
  last = last;
  below = below;
  stands = record {
    status = s;
    fits = fits;
    plan = p;
    is_plan = subst (λ phase.
        IsPlan last phase (stack c.args.running.now.frames) s c.args.answers.now p)
        c.in-Over.is is;
    goes = here;
  };
})

pub returns-in-Has-clause-stands : goal.returns-in-Has-clause-stands
returns-in-Has-clause-stands g c = λ last s p small fits below is.
    let plan = subst (λ phase.
    IsPlan last phase (stack c.args.running.now.frames) s c.args.answers.now p) c.in-Has.is is in
    rw c.in-Has.is (on_ok c.advance.result
    (λ now stands. stands_over_from (same_goes plan) stands)
    (c.advance.ensures.stands last s fits below))

pub returns-in-Some-clause-stands : goal.returns-in-Some-clause-stands
returns-in-Some-clause-stands g c = λ last s p small fits below is.
    let plan = subst (λ phase.
    IsPlan last phase (stack c.args.running.now.frames) s c.args.answers.now p) c.in-Asks.is is in
    rw (c.in-Asks.is, c.in-Some.is) (on_ok c.answered.result
    (λ now stands. stands_over_from
    (same_goes (ap (λ q. after_reply q (reply_of c.in-Some.answer)) plan)) stands)
    (c.answered.ensures.stands last s fits below))
