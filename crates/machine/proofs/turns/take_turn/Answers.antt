use Rattle.machine.specs.Frames.{stack}
use Rattle.machine.proofs.Machines.{on_ok}
use Rattle.machine.proofs.Silent.{reaches_goes}
use Rattle.steps.proofs.Leads.Silent.{then_goes}
use Rattle.machine.proofs.turns.take_turn.Goals as goal

pub returns-clause-leads : goal.returns-clause-leads
returns-clause-leads g c = λ last s fits.
    let came = c.in_ok-turned.ensures.comes s fits in
    on_ok c.settle.result (λ leaf goes. record {
      status = came.status;
      fits = came.fits;
      goes = then_goes (reaches_goes last (stack c.args.frames.now) came.reaches) goes;
    })
    (c.settle.ensures.goes last came.status)
