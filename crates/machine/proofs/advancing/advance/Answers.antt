use Rattle.std.proofs.Common.{[], subst}
use Rattle.machine.specs.Below.{HasFewer, Settles}
use Rattle.machine.specs.Frames.{onward_of, stack}
use Rattle.state.specs.Prelude.{outcome_of}
use Rattle.machine.proofs.Below.{comes_first, comes_over_from, stands_over_from}
use Rattle.machine.proofs.advancing.advance.Goals as goal

pub ticks-init : goal.ticks-init
ticks-init g c = record {
  comes = comes_first c.args.running.now c.args.state.now (outcome_of c.args.outcome);
  watched = g.met.T.Watch.stays c.args.watch.now;
}

pub returns-in-Stands-clause-stands : goal.returns-in-Stands-clause-stands
returns-in-Stands-clause-stands g c = λ last s fits below.
    let before = c.ticks.invariant.comes last s fits below in
    stands_over_from before.goes
    (subst (λ it. Settles it c.settle.new.running c.settle.new.state c.args.answers
    (onward_of before.last (stack c.ticks.running.frames) before.status
    (outcome_of c.ticks.outcome))) c.in-Stands.is
    (c.in_ok-phase.ensures.settles before.last before.status before.fits before.below))

pub returns-in-Stands-clause-watched : goal.returns-in-Stands-clause-watched
returns-in-Stands-clause-watched g c =
    g.met.T.Watch.joins _ _ _ [] [] c.ticks.invariant.watched c.settle.ensures.watched

pub ticks-preserved : goal.ticks-preserved
ticks-preserved g c = record {
  comes = λ last s fits below.
      let before = c.ticks.invariant.comes last s fits below in
      comes_over_from before.goes
      (subst (λ it. Settles it c.settle.new.running c.settle.new.state c.args.answers
      (onward_of before.last (stack c.ticks.running.frames) before.status
      (outcome_of c.ticks.outcome))) c.in-Has.is
      (c.in_ok-phase.ensures.settles before.last before.status before.fits before.below));
  watched = g.met.T.Watch.joins _ _ _ [] [] c.ticks.invariant.watched c.settle.ensures.watched;
}

pub ticks-smaller : goal.ticks-smaller
ticks-smaller g c =
    subst (λ it. HasFewer it c.settle.new.state.left c.ticks.state.left) c.in-Has.is
    c.in_ok-phase.ensures.fewer

pub returns-in_err-phase-clause-watched : goal.returns-in_err-phase-clause-watched
returns-in_err-phase-clause-watched g c =
    g.met.T.Watch.joins _ _ _ [] [] c.ticks.invariant.watched c.settle.ensures.watched
