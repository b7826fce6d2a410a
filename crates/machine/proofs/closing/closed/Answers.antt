use Rattle.std.proofs.Common.{◌∙◌, refl, sym}
use Rattle.acts.specs.Deed.{deed_of, reply_of}
use Rattle.machine.specs.Phases.{closing_on}
use Rattle.runs.specs.Ending as ending
use Rattle.runs.specs.Ending.{Unfit, With, stopped}
use Rattle.machine.proofs.Closings.{judged_none, judged_unfit, judged_fit}
use Rattle.machine.proofs.Machines.{stands_from}
use Rattle.steps.proofs.Leads.Silent.{same_goes}
use Rattle.machine.proofs.closing.closed.Goals as goal

pub returns-then-is_no_more-clause-stands : goal.returns-then-is_no_more-clause-stands
returns-then-is_no_more-clause-stands g c = λ frames last s fits.
    let reply = reply_of c.args.answer in
    record {
      status = s;
      fits = fits;
      plan = _;
      is_plan = (With ending.NoMore, refl, refl);
      goes = same_goes (judged_none stopped (deed_of c.args.act) reply
          (closing_on c.args.closing s reply) (sym c.if-is_no_more.ensures));
    }

pub returns-then-not-fits-clause-stands : goal.returns-then-not-fits-clause-stands
returns-then-not-fits-clause-stands g c = λ frames last s fits.
    let reply = reply_of c.args.answer in
    record {
      status = s;
      fits = fits;
      plan = _;
      is_plan = (Unfit, refl, refl);
      goes = same_goes (judged_unfit stopped (deed_of c.args.act) reply
          (closing_on c.args.closing s reply) (sym c.if-is_no_more.ensures)
          (sym c.if-not-fits.ensures));
    }

pub returns-clause-stands : goal.returns-clause-stands
returns-clause-stands g c = λ frames last s fits.
    let reply = reply_of c.args.answer in
    stands_from last frames c.close_next.new.state
    (same_goes (judged_fit stopped (deed_of c.args.act) reply (closing_on c.args.closing s reply)
    (sym c.if-is_no_more.ensures) (sym c.if-not-fits.ensures) ∙ c.next_end.ensures s))
    (c.close_next.ensures.stands frames last s c.args.answers fits)
