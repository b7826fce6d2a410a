use Rattle.std.proofs.Common.{◌≡◌, ◌∙◌, false, true, refl, ap}
use Rattle.choices.specs.declared.log_state.LogState.{LogState}
use Rattle.machine.specs.View.{ending_of}
use Rattle.machine.proofs.Closings.{closes_log_last, closes_none}
use Rattle.steps.proofs.Leads.Silent.{same_goes}
use Rattle.runs.specs.Ending.{With}
use Rattle.state.proofs.Fits.{log_fits}
use Rattle.state.specs.Status.{Status}
use Rattle.machine.proofs.closing.close_log.Goals as goal

pub returns-then-not-state-clause-stands : goal.returns-then-not-state-clause-stands
returns-then-not-state-clause-stands g c = λ frames last s answers fits none.
    let shut : s.log.logging ≡ false =
    ap (λ (l : LogState). l.logging) fits.log ∙ c.if-not-state.true in
    record {
      status = s;
      fits = fits;
      plan = _;
      is_plan = (With (ending_of c.args.end), refl, refl);
      goes = same_goes (closes_none (ending_of c.args.end) s none shut);
    }

pub returns-clause-stands : goal.returns-clause-stands
returns-clause-stands g c = λ frames last s answers fits none.
    let logs : s.log.logging ≡ true =
    ap (λ (l : LogState). l.logging) fits.log ∙ c.if-not-state.false in
    let log : LogState = record c.args.state.now.log { logging = false } in
    let after : Status = record s { log = log } in
    record {
      status = after;
      fits = log_fits _ s fits log;
      plan = _;
      is_plan = refl;
      goes = same_goes (closes_log_last (ending_of c.args.end) s after none logs none refl);
    }
