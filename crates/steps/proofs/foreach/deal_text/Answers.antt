use Rattle.std.proofs.Common.{◌∙◌, Ok, ap, subst}
use Rattle.acts.specs.declared.raise.Raise.TheVariants as meant
use Rattle.meanings.specs.View.{IsNoList}
use Rattle.state.specs.Piece.{ListText}
use Rattle.steps.specs.Does.{reads}
use Rattle.steps.specs.Foreach.{dealt}
use Rattle.steps.specs.Handling.{fails}
use Rattle.steps.specs.View.{did_of, spot_of}
use Rattle.steps.proofs.Does.{no_list_does, same_does}
use Rattle.steps.proofs.foreach.deal_text.Goals as goal

pub returns-in_ok-put_elements-in-Ok-clause-does :
    goal.returns-in_ok-put_elements-in-Ok-clause-does
returns-in_ok-put_elements-in-Ok-clause-does g c = λ s.
    reads {text = ListText c.args.text.now} (Ok c.in-Ok.elements.items) c.in-Ok.ensures.list
    (same_does (c.in_ok-put_elements-in-Ok.ensures.does s))

pub returns-in_ok-failed-in-Err-Fault-clause-does :
    goal.returns-in_ok-failed-in-Err-Fault-clause-does
returns-in_ok-failed-in-Err-Fault-clause-does g c = λ s.
    let spot = spot_of c.args.spot.now in
    let fault = c.in-Err-Fault.fault in
    let none : IsNoList c.args.text.now (meant.Fault fault) =
    subst (λ why. IsNoList c.args.text.now why) c.in-Err-Fault.field-0-is
    c.in-Err-Fault.ensures.fault in
    no_list_does c.args.text.now fault (dealt c.args.place spot s)
    (did_of c.in_ok-failed-in-Err-Fault.field-0 c.failed.new.spot s) none
    (λ why told. c.in_ok-failed-in-Err-Fault.ensures.does s ∙ ap (λ f. fails f spot s) told)
