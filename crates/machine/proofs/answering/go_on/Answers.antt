use Rattle.std.proofs.Common.{sym, ap}
use Rattle.acts.specs.Deed.{deed_of, reply_of}
use Rattle.machine.specs.Frames.{stack}
use Rattle.machine.specs.Waiting.{next_of}
use Rattle.machine.proofs.Machines.{leads_from, on_ok}
use Rattle.machine.proofs.Silent.{reaches_goes, same_left}
use Rattle.steps.proofs.Leads.Silent.{then_goes}
use Rattle.machine.proofs.answering.go_on.Goals as goal

pub returns-in_ok-leaf-in-Command : goal.returns-in_ok-leaf-in-Command
returns-in_ok-leaf-in-Command g c = λ last s fits.
    let frames = stack c.args.frames.now in
    let deed = deed_of c.args.act in
    let reply = reply_of c.args.answer in
    let shown = c.in_ok-leaf-in-Command.ensures.shows s fits in
    record {
      status = shown.status;
      fits = shown.fits;
      goes = then_goes (same_left last frames (ap
          (λ held. next_of held deed s reply) c.in-Command.is))
          (then_goes (reaches_goes last frames shown.reaches)
          (same_left last frames (sym (c.plainly.ensures.course shown.status))));
    }

pub returns-in_ok-came-in-Turn : goal.returns-in_ok-came-in-Turn
returns-in_ok-came-in-Turn g c = λ last s fits.
    let frames = stack c.args.frames.now in
    let deed = deed_of c.args.act in
    let reply = reply_of c.args.answer in
    let came = c.in_ok-came-in-Turn.ensures.comes s fits in
    on_ok c.talk.result (λ leaf leads.
    leads_from last (stack c.talk.new.frames) c.talk.new.state
    (then_goes (same_left last frames (ap (λ held. next_of held deed s reply) c.in-Turn.is))
    (reaches_goes last frames came.reaches))
    leads)
    (c.talk.ensures last came.status came.fits)
