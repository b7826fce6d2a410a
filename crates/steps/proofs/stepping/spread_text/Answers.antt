use Rattle.std.proofs.Common.{◌≡◌, ◌∙◌, ◌++◌, Ok, ap, rules}
use Rattle.std.specs.Prelude.{reverse}
use Rattle.std.proofs.lemmas.List.{reverse-append}
use Rattle.acts.specs.declared.raise.Raise.TheVariants as meant
use Rattle.meanings.specs.View.{IsNoList}
use Rattle.std.proofs.Common.{subst}
use Rattle.state.specs.Piece.{ListText}
use Rattle.steps.specs.Does.{reads}
use Rattle.steps.specs.Machine.{spread}
use Rattle.steps.specs.Handling.{fails}
use Rattle.steps.specs.Moves.{with_operands}
use Rattle.steps.specs.Spot.{Went}
use Rattle.steps.specs.View.{did_of, spot_of}
use Rattle.steps.proofs.Does.{no_list_does, same_does}
use Rattle.steps.proofs.stepping.spread_text.Goals as goal

pub returns-in_ok-append-in-Ok-clause-does : goal.returns-in_ok-append-in-Ok-clause-does
returns-in_ok-append-in-Ok-clause-does g c = λ s.
    let spot = spot_of c.args.spot.now in
    let old = c.args.spot.now.operands.items in
    let elements = c.in-Ok.elements.items in
    let put : c.append.new.self.items ≡ old ++ elements = search rules in
    reads {text = ListText c.args.text.now} (Ok elements) c.in-Ok.ensures.list
    (same_does (ap (λ os. Went (with_operands os spot) s)
    (ap reverse put ∙ reverse-append old elements)))

pub returns-in_ok-failed-in-Err-Fault-clause-does :
    goal.returns-in_ok-failed-in-Err-Fault-clause-does
returns-in_ok-failed-in-Err-Fault-clause-does g c = λ s.
    let spot = spot_of c.args.spot.now in
    let fault = c.in-Err-Fault.fault in
    let none : IsNoList c.args.text.now (meant.Fault fault) =
    subst (λ why. IsNoList c.args.text.now why) c.in-Err-Fault.field-0-is
    c.in-Err-Fault.ensures.fault in
    no_list_does c.args.text.now fault (spread spot s)
    (did_of c.in_ok-failed-in-Err-Fault.field-0 c.failed.new.spot s) none
    (λ why told. c.in_ok-failed-in-Err-Fault.ensures.does s ∙ ap (λ f. fails f spot s) told)
