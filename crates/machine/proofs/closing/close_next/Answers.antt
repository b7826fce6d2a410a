use Rattle.std.proofs.Common.{refl}
use Rattle.machine.specs.View.{ending_of}
use Rattle.machine.proofs.Closings.{closes_first, none_open}
use Rattle.steps.proofs.Leads.Silent.{same_goes}
use Rattle.state.specs.Status.{shut}
use Rattle.state.proofs.Fits.{ids_fit}
use Rattle.machine.proofs.closing.close_next.Goals as goal

pub returns-in-Some-clause-stands : goal.returns-in-Some-clause-stands
returns-in-Some-clause-stands g c = λ frames last s answers fits.
    let f = c.in-Some.ensures s.ids fits.ids in
    record {
      status = shut c.in-Some.id s;
      fits = ids_fit _ s fits _ _ f.fits;
      plan = _;
      is_plan = refl;
      goes = same_goes
          (closes_first (ending_of c.args.end) s f.peer f.others c.in-Some.id f.split f.same
          f.rest);
    }

pub returns-in-None-clause-stands : goal.returns-in-None-clause-stands
returns-in-None-clause-stands g c = λ frames last s answers fits.
    let none = c.in-None.ensures s.ids fits.ids in
    c.close_log.ensures.stands frames last s answers (ids_fit _ s fits _ s.ids none.1)
    (none_open s none.0)
