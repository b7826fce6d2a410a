use Rattle.std.proofs.Common.{◌∙◌, ap}
use Rattle.steps.specs.Handling.{with_code}
use Rattle.steps.specs.Moves.{jumping}
use Rattle.steps.specs.View.{spot_of}
use Rattle.steps.proofs.handling.end_script.Goals as goal

pub returns-clause-does : goal.returns-clause-does
returns-clause-does g c = λ s.
    let spot = spot_of c.args.spot.now in
    c.jump.ensures.does s
    ∙ ap (λ p. jumping c.args.place p s)
    (c.in_ok-put_code.ensures.does
    ∙ ap (λ n. with_code n c.args.value spot) c.number_of.ensures)
