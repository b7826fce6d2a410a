use Rattle.std.proofs.Common.{◌≡◌, ◌+◌, ◌≤◌, [], refl, subst, arith}
use Rattle.machine.specs.Below.{IsLess, rest_of}
use Rattle.machine.specs.Frames.{load, stack}
use Rattle.machine.specs.Phases.{more_of}
use Rattle.machine.specs.Waiting.{again_in}
use Rattle.state.specs.Budget.{again_of}
use Rattle.state.specs.View.{outcome_of}
use Rattle.steps.specs.Goes.{here}
use Rattle.machine.proofs.Below.{comes_first, handed_on, leads_over, started}
use Rattle.machine.proofs.Machines.{asks_stands, stands_from}
use Rattle.machine.proofs.advancing.settle.Goals as goal

pub commands-init : goal.commands-init
commands-init g c = record {
  comes = comes_first c.args.running.now c.args.state.now (outcome_of c.args.outcome);
  left = refl;
  same = refl;
  watched = g.met.T.Watch.stays c.args.watch.now;
}

pub returns-in-Over-clause-settles : goal.returns-in-Over-clause-settles
returns-in-Over-clause-settles g c = λ last s fits below.
    let frames = stack c.hand_on.new.running.frames in
    let before = c.commands.invariant.comes last s fits below in
    let on = handed_on c.in-Over.is before c.in_ok-handed.ensures.goes_on in
    record {
      last = on.last;
      below = on.below;
      stands = stands_from on.last frames c.close_run.new.state on.hands.goes
          (c.in_ok-close_run-in-Over.ensures.stands frames on.last on.hands.status on.hands.fits);
    }

pub returns-in-Has-clause-settles : goal.returns-in-Has-clause-settles
returns-in-Has-clause-settles g c = λ last s fits below.
    let before = c.commands.invariant.comes last s fits below in
    let on = handed_on c.in-Has.is before c.in_ok-handed.ensures.goes_on in
    leads_over c.hand_on.new.running c.in-Has.next on.last on.below on.hands

pub returns-in-Asks-clause-settles : goal.returns-in-Asks-clause-settles
returns-in-Asks-clause-settles g c = λ last s fits below.
    let before = c.commands.invariant.comes last s fits below in
    let begins = handed_on c.in-Begins.is before c.in_ok-handed.ensures.goes_on in
    let on = started c.in-Begins.next c.start.new.frames c.in-Asks.is begins
    c.in_ok-leaf.ensures.leads in
    record {
      last = on.last;
      below = on.below;
      stands = asks_stands c.in-Asks.act c.in-Asks.waits c.args.answers here on.leads;
    }

pub returns-in_err-leaf-clause-watched : goal.returns-in_err-leaf-clause-watched
returns-in_err-leaf-clause-watched g c =
    g.met.T.Watch.joins _ _ _ [] [] c.commands.invariant.watched
    (g.met.T.Watch.joins _ _ _ [] [] c.hand_on.ensures.watched
    (g.met.T.Watch.joins _ _ _ [] [] c.stands.ensures c.start.ensures.watched))

pub returns-in-Asks-clause-watched : goal.returns-in-Asks-clause-watched
returns-in-Asks-clause-watched g c =
    g.met.T.Watch.joins _ _ _ [] [] c.commands.invariant.watched
    (g.met.T.Watch.joins _ _ _ [] [] c.hand_on.ensures.watched
    (g.met.T.Watch.joins _ _ _ [] [] c.stands.ensures
    (g.met.T.Watch.joins _ _ _ [] [] c.start.ensures.watched c.leads.ensures)))

pub returns-then-state-left-clause-watched : goal.returns-then-state-left-clause-watched
returns-then-state-left-clause-watched g c =
    g.met.T.Watch.joins _ _ _ [] [] c.commands.invariant.watched
    (g.met.T.Watch.joins _ _ _ [] [] c.hand_on.ensures.watched
    (g.met.T.Watch.joins _ _ _ [] [] c.stands.ensures
    (g.met.T.Watch.joins _ _ _ [] [] c.start.ensures.watched c.leads.ensures)))

pub returns-then-state-left-clause-settles : goal.returns-then-state-left-clause-settles
returns-then-state-left-clause-settles g c = λ last s fits below.
    let before = c.commands.invariant.comes last s fits below in
    let begins = handed_on c.in-Begins.is before c.in_ok-handed.ensures.goes_on in
    let on = started c.in-Begins.next c.start.new.frames c.in-Has-leaf.is begins
    c.in_ok-leaf.ensures.leads in
    leads_over (record c.hand_on.new.running {
      frames = c.start.new.frames;
      parsed = c.start.new.parsed;
    })
    c.in-Has-leaf.next on.last on.below on.leads

pub commands-preserved : goal.commands-preserved
commands-preserved g c = record {
  comes = λ last s fits below.
      let before = c.commands.invariant.comes last s fits below in
      let begins = handed_on c.in-Begins.is before c.in_ok-handed.ensures.goes_on in
      let on = started c.in-Begins.next c.start.new.frames c.in-Has-leaf.is begins
      c.in_ok-leaf.ensures.leads in
      leads_over (record c.hand_on.new.running {
        frames = c.start.new.frames;
        parsed = c.start.new.parsed;
      })
      c.in-Has-leaf.next on.last on.below on.leads;
  left = refl;
  same = omega (
    arith,
    c.if-state-left.false,
    c.start.ensures.left,
    c.in_ok-handed.ensures.left,
    c.commands.invariant.same,
    c.commands.invariant.left,
  );
  watched = g.met.T.Watch.joins _ _ _ [] [] c.commands.invariant.watched
      (g.met.T.Watch.joins _ _ _ [] [] c.hand_on.ensures.watched
      (g.met.T.Watch.joins _ _ _ [] [] c.stands.ensures
      (g.met.T.Watch.joins _ _ _ [] [] c.start.ensures.watched c.leads.ensures)));
}

pub commands-smaller : goal.commands-smaller
commands-smaller g c =
    let frames = stack c.hand_on.new.running.frames in
    let before = c.commands.invariant in
    let still : c.hand_on.new.state.left ≡ c.commands.state.left =
    omega (
      arith,
      c.if-state-left.false,
      c.start.ensures.left,
      c.in_ok-handed.ensures.left,
      before.same,
      before.left,
    ) in
    let same : c.start.new.state.left ≡ c.hand_on.new.state.left =
    omega (
      arith,
      still,
      c.if-state-left.false,
      c.start.ensures.left,
      before.same,
      before.left,
    ) in
    let less = subst (λ h. IsLess h c.hand_on.new.running
    (again_of (outcome_of c.commands.outcome) + rest_of c.commands.running)) c.in-Begins.is
    (c.in_ok-handed.ensures.less still) in
    let more = subst (λ leaf. again_in leaf + load (stack c.start.new.frames) c.start.new.state
    ≤ more_of c.in-Begins.next + load frames c.hand_on.new.state)
    c.in-Has-leaf.is c.in_ok-leaf.ensures.load in
    omega (arith, less, more, same)

pub returns-in_err-handed-clause-watched : goal.returns-in_err-handed-clause-watched
returns-in_err-handed-clause-watched g c =
    g.met.T.Watch.joins _ _ _ [] [] c.commands.invariant.watched c.hand_on.ensures.watched

pub returns-in-Over-clause-watched : goal.returns-in-Over-clause-watched
returns-in-Over-clause-watched g c =
    g.met.T.Watch.joins _ _ _ [] [] c.commands.invariant.watched c.hand_on.ensures.watched

pub returns-in-Has-clause-watched : goal.returns-in-Has-clause-watched
returns-in-Has-clause-watched g c =
    g.met.T.Watch.joins _ _ _ [] [] c.commands.invariant.watched c.hand_on.ensures.watched

pub returns-in_err-close_run-in-Over-clause-watched :
    goal.returns-in_err-close_run-in-Over-clause-watched
returns-in_err-close_run-in-Over-clause-watched g c =
    g.met.T.Watch.joins _ _ _ [] [] c.commands.invariant.watched c.hand_on.ensures.watched
