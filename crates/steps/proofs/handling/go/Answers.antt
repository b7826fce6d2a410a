use Rattle.std.proofs.Common.{◌∙◌, [], ◌∷◌, Some, sym, ap}
use Rattle.nesting.specs.Catch.{number_of}
use Rattle.state.specs.View.{code_of}
use Rattle.steps.specs.Handling.{led, with_code}
use Rattle.steps.specs.Moves.{jumping}
use Rattle.steps.specs.Spot.{Stuck, with_top}
use Rattle.steps.specs.View.{handler_of, spot_of}
use Rattle.steps.proofs.handling.go.Goals as goal

pub returns-in-Out-clause-does : goal.returns-in-Out-clause-does
returns-in-Out-clause-does g c = λ s.
    let handler = handler_of c.args.taker.handler in
    let spot = spot_of c.args.spot.now in
    c.jump.ensures.does s
    ∙ ap (λ p. jumping handler.over p s) c.go_outside.ensures.does
    ∙ sym (ap (λ w. led (Some w) (code_of c.args.code) c.args.value spot s handler spot.handlers
    Stuck) c.in-Out.is)

pub returns-in_ok-end_body-in-End-clause-does : goal.returns-in_ok-end_body-in-End-clause-does
returns-in_ok-end_body-in-End-clause-does g c = λ s.
    let handler = handler_of c.args.taker.handler in
    let spot = spot_of c.args.spot.now in
    c.in_ok-end_body-in-End.ensures.does s
    ∙ ap (λ p. jumping c.in-End.end
    (with_top [] (record p { handlers = handler ∷ p.handlers })) s) c.go_outside.ensures.does
    ∙ sym (ap (λ w. led (Some w) (code_of c.args.code) c.args.value spot s handler spot.handlers
    Stuck) c.in-End.is)

pub returns-in_ok-end_script-in-Caught-clause-does :
    goal.returns-in_ok-end_script-in-Caught-clause-does
returns-in_ok-end_script-in-Caught-clause-does g c = λ s.
    let handler = handler_of c.args.taker.handler in
    let spot = spot_of c.args.spot.now in
    let code = code_of c.args.code in
    c.in_ok-end_script-in-Caught.ensures.does s
    ∙ ap (λ p. jumping handler.over (with_code (number_of code) c.args.value p) s)
    c.go_outside.ensures.does
    ∙ sym (ap (λ w. led (Some w) code c.args.value spot s handler spot.handlers Stuck)
    c.in-Caught.is)
