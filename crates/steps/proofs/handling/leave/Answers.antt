use Rattle.std.proofs.Common.{◌∙◌, sym, ap}
use Rattle.state.specs.View.{code_of}
use Rattle.steps.specs.View.{led_by, spot_of}
use Rattle.steps.proofs.handling.leave.Goals as goal

pub returns-in_ok-go-in-Some-clause-does : goal.returns-in_ok-go-in-Some-clause-does
returns-in_ok-go-in-Some-clause-does g c = λ s.
    let code = code_of c.args.code in
    c.in_ok-go-in-Some.ensures.does s
    ∙ sym (ap (λ o. led_by o code c.args.value (spot_of c.taker_of.new.spot) s) c.in-Some.is)
    ∙ c.taker_of.ensures.takes c.args.value s

pub returns-in-None-clause-does : goal.returns-in-None-clause-does
returns-in-None-clause-does g c = λ s.
    let code = code_of c.args.code in
    c.end.ensures.does s
    ∙ sym (ap (λ o. led_by o code c.args.value (spot_of c.taker_of.new.spot) s) c.in-None.is)
    ∙ c.taker_of.ensures.takes c.args.value s
