use Rattle.std.proofs.Common.{ap}
use Rattle.machine.specs.Frames.{stack}
use Rattle.machine.proofs.Machines.{leads_from, on_ok}
use Rattle.machine.proofs.Silent.{reaches_goes, same_left}
use Rattle.steps.proofs.Leads.Silent.{then_goes}
use Rattle.expects.specs.View.{course_of_begun}
use Rattle.machine.proofs.turns.wait.Goals as goal

pub returns-in-Opens-clause-leads : goal.returns-in-Opens-clause-leads
returns-in-Opens-clause-leads g c = λ last s fits.
    let frames = stack c.args.frames.now in
    let levels = c.args.levels in
    let came = c.in_ok-opening.ensures.comes s fits in
    on_ok c.open.result (λ leaf leads.
    leads_from last (stack c.open.new.frames) c.open.new.state
    (then_goes (reaches_goes last frames came.reaches)
    (same_left last frames (ap (λ b. course_of_begun levels b came.status) c.in-Opens.is)))
    leads)
    (c.open.ensures.leads last came.status came.fits)

pub returns-in-Gathers-clause-leads : goal.returns-in-Gathers-clause-leads
returns-in-Gathers-clause-leads g c = λ last s fits.
    let old = stack c.args.frames.now in
    let levels = c.args.levels in
    let came = c.in_ok-opening.ensures.comes s fits in
    on_ok c.gather.result (λ leaf goes. record {
      status = came.status;
      fits = came.fits;
      goes = then_goes (reaches_goes last old came.reaches)
          (then_goes
          (same_left last old
          (ap (λ b. course_of_begun levels b came.status) c.in-Gathers.is)) goes);
    })
    (c.gather.ensures.goes last came.status)
