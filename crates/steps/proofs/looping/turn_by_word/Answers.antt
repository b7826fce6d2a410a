use Rattle.std.proofs.Common.{◌∙◌, Err, ap, subst}
use Rattle.std.specs.Prelude.{IfErr}
use Rattle.operators.specs.View.{IsNoTruth}
use Rattle.steps.specs.Loops.{turned}
use Rattle.steps.specs.View.{spot_of, with_parts}
use Rattle.steps.proofs.Meanings.{no_truth}
use Rattle.steps.proofs.looping.turn_by_word.Goals as goal

pub returns-in-Err-Fault-clause-does : goal.returns-in-Err-Fault-clause-does
returns-in-Err-Fault-clause-does g c = λ s.
    let spot = spot_of c.args.spot.now in
    let t = with_parts s.scopes s.procedures c.args.left.now s in
    let told = subst (λ text. IfErr c.truth-2.result (IsNoTruth text)) c.text.ensures
    c.truth-2.ensures.fault in
    let is = c.in-Err-Fault.is ∙ ap (λ why. Err why) c.in-Err-Fault.field-0-is in
    c.in_ok-failed-in-Err-Fault.ensures.does t
    ∙ no_truth c.truth-2.result c.in-Err-Fault.fault c.args.word spot t
    (λ holds. turned c.args.body c.args.end holds spot t) is told
