use Rattle.machine.specs.Frames.{stack}
use Rattle.machine.proofs.Machines.{leads_from, on_ok}
use Rattle.machine.proofs.Silent.{reaches_goes}
use Rattle.machine.proofs.turns.say.Goals as goal

pub returns-clause-leads : goal.returns-clause-leads
returns-clause-leads g c = λ last s fits.
    let came = c.in_ok-opening.ensures.comes s fits in
    on_ok c.open.result (λ leaf leads.
    leads_from last (stack c.open.new.frames) c.open.new.state
    (reaches_goes last (stack c.args.frames.now) came.reaches) leads)
    (c.open.ensures.leads last came.status came.fits)
