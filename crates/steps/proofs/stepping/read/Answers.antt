use Rattle.std.proofs.Common.{◌∙◌, option_copied}
use Rattle.steps.specs.View.{spot_of}
use Rattle.steps.proofs.Does.{unread}
use Rattle.steps.proofs.stepping.read.Goals as goal

pub returns-in_ok-fail_to_reach-in-Err-clause-does :
    goal.returns-in_ok-fail_to_reach-in-Err-clause-does
returns-in_ok-fail_to_reach-in-Err-clause-does g c = λ s same.
    let spot = spot_of c.args.spot.now in
    let failed = c.in_ok-fail_to_reach-in-Err.ensures.does in
    failed.2 s
    ∙ unread s c.args.scopes.now c.args.name.now (option_copied c.args.index) c.in-Err.error
    failed.0 spot same c.in-Err.ensures.trouble failed.1
