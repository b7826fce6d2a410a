use Rattle.std.proofs.Common.{◌∙◌, drop, sym, ap, subst}
use Rattle.commands.specs.Acting.{does}
use Rattle.commands.specs.Began.{Begins}
use Rattle.commands.specs.Commands.{command}
use Rattle.kinds.specs.Exchange.{talks}
use Rattle.machine.proofs.Silent.{reaches_goes, same_left}
use Rattle.steps.proofs.Leads.Silent.{then_goes}
use Rattle.machine.proofs.starting.call_plain.Goals as goal

pub returns-in-Has-clause-begins : goal.returns-in-Has-clause-begins
returns-in-Has-clause-begins g c = λ frames last s fits.
    let words = c.as_slice.result.now in
    let shown = subst (λ b. Begins (command s words) b (drop 1 words) s c.begin.new.state)
    c.in-Has.is (c.in_ok-outcome.ensures.begins s fits) in
    record {
      status = shown.status;
      fits = shown.fits;
      goes = then_goes (same_left last frames (ap (λ ws. command s ws)
          (sym c.as_slice.ensures.value)))
          (reaches_goes last frames shown.reaches);
    }

pub returns-in-Asks-clause-begins : goal.returns-in-Asks-clause-begins
returns-in-Asks-clause-begins g c = λ frames last s fits.
    let words = c.as_slice.result.now in
    let asks = subst (λ b. Begins (command s words) b (drop 1 words) s c.begin.new.state)
    c.in-Asks.is (c.in_ok-outcome.ensures.begins s fits) in
    record {
      status = s;
      fits = asks.1;
      goes = same_left last frames (ap (λ ws. command s ws) (sym c.as_slice.ensures.value) ∙ asks.0
          ∙ ap (λ ws. talks (does c.in-Asks.acting (drop 1 ws) s) s) c.as_slice.ensures.value);
    }
