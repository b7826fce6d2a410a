use Rattle.machine.specs.Frames.{stack}
use Rattle.machine.proofs.Machines.{on_ok}
use Rattle.machine.proofs.Silent.{reaches_goes}
use Rattle.steps.proofs.Leads.Silent.{then_goes}
use Rattle.machine.proofs.starting.begin_control.Goals as goal

pub returns-clause-leads : goal.returns-clause-leads
returns-clause-leads g c = λ last s fits.
    let shown = c.in_ok-begun.ensures.begins s fits in
    on_ok c.put_begun.result (λ outcome goes. record {
      status = shown.status;
      fits = shown.fits;
      goes = then_goes (reaches_goes last (stack c.args.frames.now) shown.reaches) goes;
    })
    (c.put_begun.ensures.goes last shown.status)
