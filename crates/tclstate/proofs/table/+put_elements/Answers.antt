use Rattle.std.proofs.Common.{ap, ◌∙◌}
use Rattle.tclstate.specs.InTurn.{elements_in}
use Rattle.tclstate.specs.Pairs.{put}
use Rattle.tclstate.specs.Stored.{texts_of}
use Rattle.tclstate.proofs.InTurn.{fills_later}
use Rattle.tclstate.proofs.table.+put_elements.Goals as goal

pub returns-in-Ok : goal.returns-in-Ok
returns-in-Ok g t c =
    fills_later (texts_of c.args.elements.now.entries) (texts_of c.put_element.new.elements.entries)
    (c.in-Some.first.now.0.now, c.in-Some.first.now.1) _ (elements_in c.in-Some.rest.now)
    c.put_elements.result _ (ap elements_in c.in-Some.ensures.cases.0)
    (c.in-Ok.ensures.ok ∙ ap (put (texts_of c.args.elements.now.entries)
    c.in-Some.first.now.0.now) c.replace-value.ensures.value)
    c.put_elements.ensures
