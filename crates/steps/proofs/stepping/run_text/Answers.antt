use Rattle.std.proofs.Common.{◌<◌, ◌∙◌, rules}
use Rattle.steps.specs.View.{spot_of}
use Rattle.steps.proofs.Does.{runs_so}
use Rattle.steps.proofs.stepping.run_text.Goals as goal

pub returns-clause-does : goal.returns-clause-does
returns-clause-does g c = λ s.
    let spot = c.args.spot.now in
    let some : 0 < spot.levels = search rules in
    c.in_ok-run_text.ensures.does s
    ∙ runs_so spot.levels c.args.text.now (spot_of spot) s some
