use Rattle.std.proofs.Common.{Ok, Err, ap, arith}
use Rattle.machine.specs.Frames.{next_of}
use Rattle.machine.specs.declared.frame.Frame.TheVariants as frame
use Rattle.machine.proofs.Entering.{some_weight}
use Rattle.machine.proofs.Machines.{code_passes}
use Rattle.machine.proofs.Silent.{same_left}
use Rattle.state.specs.Budget.{again_of}
use Rattle.state.specs.View.{outcome_of}
use Rattle.steps.proofs.Leads.Silent.{then_goes}
use Rattle.machine.proofs.unwinding.code_on.Goals as goal

pub returns-in-Ok-clause-unwinds : goal.returns-in-Ok-clause-unwinds
returns-in-Ok-clause-unwinds g c = λ last frames state s fits. record {
  status = s;
  fits = fits;
  goes = same_left last frames
      (ap (λ o. next_of {A = g.row.A.Denot} (frame.Code c.args.it c.args.levels) s (outcome_of o))
      c.in-Ok.is);
}

pub returns-in-Err-clause-unwinds : goal.returns-in-Err-clause-unwinds
returns-in-Err-clause-unwinds g c = λ last frames state s fits. record {
  status = s;
  fits = fits;
  goes = then_goes
      (same_left last frames
      (ap (λ o. next_of {A = g.row.A.Denot} (frame.Code c.args.it c.args.levels) s (outcome_of o))
      c.in-Err.is))
      (same_left last frames (code_passes c.args.it c.args.levels s c.in-Err.leave));
}

pub returns-in-Err-clause-lightens : goal.returns-in-Err-clause-lightens
returns-in-Err-clause-lightens g c = λ frames state.
    let same = ap (λ o. again_of (outcome_of o)) c.in-Err.is in
    (omega (arith, some_weight c.args.it), omega (arith, same), omega arith)
