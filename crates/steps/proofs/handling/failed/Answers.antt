use Rattle.std.proofs.Common.{◌∙◌, ap}
use Rattle.steps.specs.Handling.{resumed}
use Rattle.steps.specs.View.{spot_of}
use Rattle.steps.proofs.handling.failed.Goals as goal

pub returns-clause-does : goal.returns-clause-does
returns-clause-does g c = λ s.
    c.in_ok-resume.ensures.does s
    ∙ ap (λ o. resumed (spot_of c.args.spot.now) o s) c.in_ok-outcome.ensures
