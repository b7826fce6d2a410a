use Rattle.std.proofs.Common.{◌∙◌, [], sym, ap}
use Rattle.code.specs.declared.made.Entry.TheVariants as entry
use Rattle.expects.specs.View.{form_of}
use Rattle.expects.specs.Words.{named}
use Rattle.machine.specs.Frames.{onward_of, stack}
use Rattle.machine.specs.declared.frame.Frame.TheVariants as frame
use Rattle.machine.proofs.Machines.{over_goes}
use Rattle.machine.proofs.Silent.{same_left}
use Rattle.expects.proofs.Answering.{after_name}
use Rattle.state.specs.Outcome.{Gives}
use Rattle.state.specs.Words.{words}
use Rattle.steps.proofs.Leads.Silent.{same_goes, then_goes}
use Rattle.machine.proofs.turns.gather.Goals as goal

pub returns-clause-goes : goal.returns-clause-goes
returns-clause-goes g c = λ last s.
    let old = stack c.args.frames.now in
    let new = stack c.push.new.frames in
    let name = c.in_ok-name.name in
    let levels = c.args.levels in
    then_goes
    (same_left last old
    (after_name (form_of c.args.form) levels name (ap named c.in_ok-name.ensures ∙ c.name.ensures)
    c.args.words [] s))
    (then_goes
    (same_goes (ap (λ fs. onward_of last fs s (Gives name)) (sym c.in_ok-push.ensures)))
    (over_goes last new c.gives.result (Gives name) s c.gives.ensures))
