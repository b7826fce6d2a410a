use Rattle.std.proofs.Common.{◌+◌, ◌*◌, ap, subst, arith}
use Rattle.machine.specs.Below.{depth, rest_of}
use Rattle.machine.specs.Frames.{onward_of, stack, weight, weight_in, words_in}
use Rattle.machine.specs.Phases.{IsEmptied, IsLighter, Lightens, Unwinds}
use Rattle.machine.proofs.Machines.{on_ok}
use Rattle.machine.proofs.Below.{falls_to_more, goes_on_from, less_more}
use Rattle.steps.proofs.Leads.Silent.{same_goes, then_goes}
use Rattle.state.specs.Budget.{again_of}
use Rattle.state.specs.Prelude.{outcome_of}
use Rattle.steps.specs.Run.{branches_in}
use Rattle.machine.proofs.running.hand_once.Goals as goal

pub returns-in-Begins-clause-goes_on : goal.returns-in-Begins-clause-goes_on
returns-in-Begins-clause-goes_on g c = λ last s fits below.
    let frames = stack c.unwind.new.frames in
    record {
      last = last;
      below = below;
      hands = subst (λ u. Unwinds last u frames c.unwind.new.state
          (onward_of last (stack c.args.running.now.frames) s (outcome_of c.args.outcome)))
          c.in-Begins.is (c.in_ok-next.ensures.unwinds last s fits);
    }

pub returns-in-Begins-clause-less : goal.returns-in-Begins-clause-less
returns-in-Begins-clause-less g c = λ same.
    let old = c.args.running.now in
    let light = subst (λ u. Lightens u (stack c.unwind.new.frames) c.unwind.new.state
    (1 + weight (stack old.frames))
    (again_of (outcome_of c.args.outcome) + words_in (stack old.frames))
    c.args.state.now.left) c.in-Begins.is c.in_ok-next.ensures.lightens in
    omega (arith, light, same)

pub returns-in_ok-enter-in-Enters-clause-goes_on : goal.returns-in_ok-enter-in-Enters-clause-goes_on
returns-in_ok-enter-in-Enters-clause-goes_on g c = λ last s fits below.
    let begins = subst (λ u. Unwinds last u (stack c.unwind.new.frames) c.unwind.new.state
    (onward_of last (stack c.args.running.now.frames) s (outcome_of c.args.outcome)))
    c.in-Enters.is (c.in_ok-next.ensures.unwinds last s fits) in
    goes_on_from c.in_ok-enter-in-Enters.field-0 c.enter.new.running c.enter.new.state begins.goes
    (c.in_ok-enter-in-Enters.ensures.goes_on last begins.status begins.fits below)

pub returns-in_ok-enter-in-Enters-clause-less : goal.returns-in_ok-enter-in-Enters-clause-less
returns-in_ok-enter-in-Enters-clause-less g c = λ same.
    let old = c.args.running.now in
    let new = c.enter.new.running in
    let it = c.in-Enters.it in
    let light = subst (λ u. Lightens u (stack c.unwind.new.frames) c.unwind.new.state
    (1 + weight (stack old.frames))
    (again_of (outcome_of c.args.outcome) + words_in (stack old.frames))
    c.args.state.now.left) c.in-Enters.is c.in_ok-next.ensures.lightens in
    less_more c.in_ok-enter-in-Enters.field-0 new
    (branches_in it + rest_of (record old { frames = c.unwind.new.frames }))
    (again_of (outcome_of c.args.outcome) + rest_of old) (omega (arith, light.1))
    (c.in_ok-enter-in-Enters.ensures.less
    (omega (arith, same, light.2, c.in_ok-enter-in-Enters.ensures.left)))

pub returns-in_ok-enter-in-Enters-clause-falls : goal.returns-in_ok-enter-in-Enters-clause-falls
returns-in_ok-enter-in-Enters-clause-falls g c = λ same.
    let old = c.args.running.now in
    let new = c.enter.new.running in
    let frames = stack c.unwind.new.frames in
    let light = subst (λ u. Lightens u frames c.unwind.new.state
    (1 + weight (stack old.frames))
    (again_of (outcome_of c.args.outcome) + words_in (stack old.frames))
    c.args.state.now.left) c.in-Enters.is c.in_ok-next.ensures.lightens in
    let lighter = subst (λ u. IsLighter u frames (weight (stack old.frames))) c.in-Enters.is
    c.in_ok-next.ensures.lighter in
    falls_to_more c.in_ok-enter-in-Enters.field-0 new
    (2 * weight_in c.in-Enters.it + depth (record old { frames = c.unwind.new.frames })) (depth old)
    (omega (arith, lighter))
    (c.in_ok-enter-in-Enters.ensures.falls
    (omega (arith, same, light.2, c.in_ok-enter-in-Enters.ensures.left)))

pub returns-in-Has-clause-goes_on : goal.returns-in-Has-clause-goes_on
returns-in-Has-clause-goes_on g c = λ last s fits below.
    let frames = stack c.unwind.new.frames in
    let o = outcome_of c.in-Has.last in
    let emptied = subst (λ u. IsEmptied u frames) c.in-Has.is c.in_ok-next.ensures.emptied in
    let leads = subst (λ u. Unwinds last u frames c.unwind.new.state
    (onward_of last (stack c.args.running.now.frames) s (outcome_of c.args.outcome)))
    c.in-Has.is (c.in_ok-next.ensures.unwinds last s fits) in
    on_ok c.hand_down.result
    (λ handed on. goes_on_from handed c.hand_down.new.running c.hand_down.new.state
    (then_goes leads.goes (same_goes (ap (λ fs. onward_of last fs leads.status o) emptied))) on)
    (c.hand_down.ensures.goes_on last leads.status leads.fits emptied below)

pub returns-in-Begins-clause-watched : goal.returns-in-Begins-clause-watched
returns-in-Begins-clause-watched g c = g.met.T.Watch.stays c.args.watch.now
