use Rattle.std.proofs.Common.{[], sym, subst}
use Rattle.acts.specs.Deed.{deed_of, reply_of}
use Rattle.machine.specs.Frames.{left_of, stack}
use Rattle.machine.specs.Phases.{Leads}
use Rattle.machine.specs.Waiting.{next_of}
use Rattle.state.specs.Dialogue.{stopping}
use Rattle.machine.proofs.Closings.{judged_fit, judged_none, judged_unfit}
use Rattle.machine.proofs.Machines.{asks_stands, on_ok}
use Rattle.machine.proofs.Below.{stands_over_from}
use Rattle.machine.proofs.Silent.{same_left}
use Rattle.steps.proofs.Leads.Silent.{then_goes}
use Rattle.machine.proofs.answering.answered.Goals as goal

pub returns-in-Has-clause-stands : goal.returns-in-Has-clause-stands
returns-in-Has-clause-stands g c = λ last s fits below.
    let frames = stack c.args.running.now.frames in
    let deed = deed_of c.args.act in
    let reply = reply_of c.args.answer in
    let next = next_of c.args.waits deed s reply in
    let leads = subst (λ leaf. Leads last leaf (stack c.go_on.new.frames) c.go_on.new.state
    (left_of last next frames)) c.in-Has.is (c.in_ok-leaf.ensures last s fits) in
    on_ok c.advance-in-Has.result (λ phase stands. stands_over_from
    (then_goes
    (same_left last frames
    (judged_fit (stopping s) deed reply next (sym c.if-is_no_more.ensures)
    (sym c.if-not-fits.ensures)))
    leads.goes)
    stands)
    (c.advance-in-Has.ensures.stands last leads.status leads.fits below)

pub returns-in-Asks-clause-stands : goal.returns-in-Asks-clause-stands
returns-in-Asks-clause-stands g c = λ last s fits below.
    let frames = stack c.args.running.now.frames in
    let deed = deed_of c.args.act in
    let reply = reply_of c.args.answer in
    let next = next_of c.args.waits deed s reply in
    record {
      last = last;
      below = below;
      stands = asks_stands c.in-Asks.act c.in-Asks.waits c.args.answers
          (same_left last frames
          (judged_fit (stopping s) deed reply next (sym c.if-is_no_more.ensures)
          (sym c.if-not-fits.ensures)))
          (subst (λ leaf. Leads last leaf (stack c.go_on.new.frames) c.go_on.new.state
          (left_of last next frames)) c.in-Asks.is (c.in_ok-leaf.ensures last s fits));
    }

pub returns-in-Has-clause-watched : goal.returns-in-Has-clause-watched
returns-in-Has-clause-watched g c =
    g.met.T.Watch.joins _ _ _ [] [] c.leads.ensures c.advance-in-Has.ensures.watched

pub returns-then-is_no_more-clause-stands : goal.returns-then-is_no_more-clause-stands
returns-then-is_no_more-clause-stands g c = λ last s fits below.
    let deed = deed_of c.args.act in
    let reply = reply_of c.args.answer in
    on_ok c.advance.result (λ phase stands. stands_over_from
    (same_left last (stack c.args.running.now.frames)
    (judged_none (stopping s) deed reply (next_of c.args.waits deed s reply)
    (sym c.if-is_no_more.ensures)))
    stands)
    (c.advance.ensures.stands last s fits below)

pub returns-then-not-fits-clause-stands : goal.returns-then-not-fits-clause-stands
returns-then-not-fits-clause-stands g c = λ last s fits below.
    let deed = deed_of c.args.act in
    let reply = reply_of c.args.answer in
    on_ok c.advance-then-not-fits.result (λ phase stands. stands_over_from
    (same_left last (stack c.args.running.now.frames)
    (judged_unfit (stopping s) deed reply (next_of c.args.waits deed s reply)
    (sym c.if-is_no_more.ensures) (sym c.if-not-fits.ensures)))
    stands)
    (c.advance-then-not-fits.ensures.stands last s fits below)
