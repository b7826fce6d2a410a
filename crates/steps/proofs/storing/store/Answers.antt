use Rattle.std.proofs.Common.{◌∙◌, ap}
use Rattle.state.specs.Prelude.{flaw_of}
use Rattle.steps.specs.Handling.{fails}
use Rattle.steps.specs.View.{spot_of, with_parts}
use Rattle.steps.proofs.Stores.{was_unwritten}
use Rattle.tclparse.specs.Variable.{named}
use Rattle.steps.proofs.storing.store.Goals as goal

pub returns-in_ok-fail_to_reach-in-Err-clause-does :
    goal.returns-in_ok-fail_to_reach-in-Err-clause-does
returns-in_ok-fail_to_reach-in-Err-clause-does g c = λ s.
    let spot = spot_of c.args.spot.now in
    let failed = c.in_ok-fail_to_reach-in-Err.ensures.does in
    let fault = failed.0 in
    let t = with_parts c.args.scopes.now s.procedures s.left s in
    failed.2 (with_parts c.set.new.self s.procedures s.left s)
    ∙ ap (λ scopes. fails (flaw_of fault) spot (with_parts scopes s.procedures s.left s))
    c.in-Err.ensures.unchanged
    ∙ was_unwritten (named c.args.word.now) _ _ c.args.value spot t c.in-Err.error fault
    c.in-Ok.ensures.name c.in-Err.ensures.trouble failed.1
