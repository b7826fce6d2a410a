use Rattle.std.proofs.Common.{◌∙◌, drop, sym, ap}
use Rattle.commands.specs.Acting.{does}
use Rattle.expects.specs.Expect.{by_words, expect}
use Rattle.expects.specs.View.{form_of}
use Rattle.kinds.specs.Exchange.{talks}
use Rattle.machine.specs.Began.{course_of_asking}
use Rattle.machine.specs.Frames.{stack}
use Rattle.machine.proofs.Machines.{leads_from, on_ok}
use Rattle.machine.proofs.Silent.{reaches_goes, same_left}
use Rattle.steps.proofs.Leads.Silent.{then_goes}
use Rattle.machine.proofs.starting.ask.Goals as goal

pub returns-in_ok-leaf-in-Command-clause-leads : goal.returns-in_ok-leaf-in-Command-clause-leads
returns-in_ok-leaf-in-Command-clause-leads g c = λ last s fits.
    let frames = stack c.args.frames.now in
    let own = c.in-Command.acting in
    let shown = c.in_ok-leaf-in-Command.ensures.shows s fits in
    let rest = c.behind.ensures ∙ ap (λ ws. drop 1 ws) c.as_slice.ensures.value in
    record {
      status = shown.status;
      fits = shown.fits;
      goes = then_goes
          (same_left last frames (ap (λ a. course_of_asking a s) c.in-Command.is
          ∙ ap (λ args. talks (does own args s) s) (sym rest)))
          (then_goes (reaches_goes last frames shown.reaches)
          (same_left last frames (sym (c.plainly.ensures.course shown.status))));
    }

pub returns-in-Branches-clause-leads : goal.returns-in-Branches-clause-leads
returns-in-Branches-clause-leads g c = λ last s fits.
    let form = form_of c.in-Branches.form in
    let levels = c.in-Branches.levels in
    let rest = c.behind-in-Branches.ensures
    ∙ ap (λ ws. drop 1 ws) c.as_slice-in-Branches.ensures.value in
    on_ok c.say.result (λ leaf leads. leads_from last (stack c.say.new.frames) c.say.new.state
    (same_left last (stack c.args.frames.now) (ap (λ a. course_of_asking a s) c.in-Branches.is
    ∙ ap (λ ws. by_words form levels s ws) (sym rest)))
    leads)
    (c.say.ensures.leads last s fits)

pub returns-in-Turn-clause-leads : goal.returns-in-Turn-clause-leads
returns-in-Turn-clause-leads g c = λ last s fits.
    on_ok c.take_turn.result
    (λ leaf leads. leads_from last (stack c.take_turn.new.frames) c.take_turn.new.state
    (same_left last (stack c.args.frames.now) (ap (λ a. course_of_asking a s) c.in-Turn.is)) leads)
    (c.take_turn.ensures.leads last s fits)

pub returns-in-Branching-clause-leads : goal.returns-in-Branching-clause-leads
returns-in-Branching-clause-leads g c = λ last s fits.
    let form = form_of c.in-Branching.form in
    let levels = c.in-Branching.levels in
    let rest = c.behind-in-Branching.ensures
    ∙ ap (λ ws. drop 1 ws) c.as_slice-in-Branching.ensures.value in
    on_ok c.wait.result (λ leaf leads. leads_from last (stack c.wait.new.frames) c.wait.new.state
    (same_left last (stack c.args.frames.now) (ap (λ a. course_of_asking a s) c.in-Branching.is
    ∙ ap (λ args. expect form levels args s) (sym rest)))
    leads)
    (c.wait.ensures.leads last s fits)
