use Rattle.std.proofs.Common.{◌≡◌, ◌+◌, [], refl, subst, arith}
use Rattle.machine.specs.Below.{Falls, IsLess, rest_of}
use Rattle.state.specs.Budget.{again_of}
use Rattle.state.specs.Prelude.{outcome_of}
use Rattle.machine.proofs.Below.{comes_first, handed_on, leads_over}
use Rattle.machine.proofs.running.hand_on.Goals as goal

pub parts-init : goal.parts-init
parts-init g c = record {
  comes = comes_first c.args.running.now c.args.state.now (outcome_of c.args.outcome);
  left = refl;
  same = refl;
  less = omega arith;
  watched = g.met.T.Watch.stays c.args.watch.now;
}

pub returns-then-state-left-clause-goes_on : goal.returns-then-state-left-clause-goes_on
returns-then-state-left-clause-goes_on g c = λ last s fits below.
    handed_on c.in-Has.is (c.parts.invariant.comes last s fits below)
    c.in_ok-next.ensures.goes_on

pub returns-in-Begins-clause-goes_on : goal.returns-in-Begins-clause-goes_on
returns-in-Begins-clause-goes_on g c = λ last s fits below.
    handed_on c.in-Begins.is (c.parts.invariant.comes last s fits below)
    c.in_ok-next.ensures.goes_on

pub returns-in-Over-clause-goes_on : goal.returns-in-Over-clause-goes_on
returns-in-Over-clause-goes_on g c = λ last s fits below.
    handed_on c.in-Over.is (c.parts.invariant.comes last s fits below)
    c.in_ok-next.ensures.goes_on

pub parts-preserved : goal.parts-preserved
parts-preserved g c =
    let before = c.parts.invariant in
    let now = c.hand_once.new.state.left in
    let still : now ≡ c.parts.state.left =
    omega (arith, before.same, before.left, c.in_ok-next.ensures.left, c.if-state-left.false) in
    let less = subst (λ h. IsLess h c.hand_once.new.running
    (again_of (outcome_of c.parts.outcome) + rest_of c.parts.running)) c.in-Has.is
    (c.in_ok-next.ensures.less still) in
    record {
      comes = λ last s fits below.
          let on = handed_on c.in-Has.is (before.comes last s fits below)
          c.in_ok-next.ensures.goes_on in
          leads_over c.hand_once.new.running c.in-Has.next on.last on.below on.hands;
      left = refl;
      same = omega (arith, still, before.same);
      less = omega (arith, less, before.less);
      watched = g.met.T.Watch.joins _ _ _ [] [] before.watched c.hand_once.ensures.watched;
    }

pub parts-smaller : goal.parts-smaller
parts-smaller g c =
    let before = c.parts.invariant in
    let now = c.hand_once.new.state.left in
    let still : now ≡ c.parts.state.left =
    omega (arith, before.same, before.left, c.in_ok-next.ensures.left, c.if-state-left.false) in
    subst (λ h. Falls h c.parts.running c.hand_once.new.running) c.in-Has.is
    (c.in_ok-next.ensures.falls still)

pub returns-in_err-next-clause-watched : goal.returns-in_err-next-clause-watched
returns-in_err-next-clause-watched g c =
    g.met.T.Watch.joins _ _ _ [] [] c.parts.invariant.watched c.hand_once.ensures.watched

pub returns-then-state-left-clause-watched : goal.returns-then-state-left-clause-watched
returns-then-state-left-clause-watched g c =
    g.met.T.Watch.joins _ _ _ [] [] c.parts.invariant.watched c.hand_once.ensures.watched

pub returns-in-Begins-clause-watched : goal.returns-in-Begins-clause-watched
returns-in-Begins-clause-watched g c =
    g.met.T.Watch.joins _ _ _ [] [] c.parts.invariant.watched c.hand_once.ensures.watched

pub returns-in-Over-clause-watched : goal.returns-in-Over-clause-watched
returns-in-Over-clause-watched g c =
    g.met.T.Watch.joins _ _ _ [] [] c.parts.invariant.watched c.hand_once.ensures.watched
