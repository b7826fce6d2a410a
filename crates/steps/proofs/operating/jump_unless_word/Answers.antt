use Rattle.std.proofs.Common.{◌∙◌, Err, ap, subst, if◌then◌else◌}
use Rattle.std.specs.Prelude.{IfErr}
use Rattle.operators.specs.View.{IsNoTruth}
use Rattle.steps.specs.Moves.{jumping}
use Rattle.steps.specs.Spot.{Went}
use Rattle.steps.specs.View.{spot_of}
use Rattle.steps.proofs.Meanings.{no_truth}
use Rattle.steps.proofs.operating.jump_unless_word.Goals as goal

pub returns-in-Err-Fault-clause-does : goal.returns-in-Err-Fault-clause-does
returns-in-Err-Fault-clause-does g c = λ s.
    let spot = spot_of c.args.spot.now in
    let told = subst (λ t. IfErr c.truth-2.result (IsNoTruth t)) c.text.ensures
    c.truth-2.ensures.fault in
    let is = c.in-Err-Fault.is ∙ ap (λ why. Err why) c.in-Err-Fault.field-0-is in
    c.in_ok-failed-in-Err-Fault.ensures.does s
    ∙ no_truth c.truth-2.result c.in-Err-Fault.fault c.args.word spot s
    (λ holds. if holds then Went spot s else jumping c.args.place spot s) is told
