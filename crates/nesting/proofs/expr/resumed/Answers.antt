use Rattle.std.proofs.Common.{◌∙◌, Ok, Err, refl, ap}
use Rattle.nesting.proofs.Passing.{value_passes}
use Rattle.nesting.specs.Expr.{next_of, told}
use Rattle.operators.specs.Value.{result}
use Rattle.nesting.proofs.Nestings.{over}
use Rattle.state.specs.Prelude.{Gives, outcome_of}
use Rattle.nesting.proofs.expr.resumed.Goals as goal

pub returns-in_ok-result-in-Ok-clause-nests : goal.returns-in_ok-result-in-Ok-clause-nests
returns-in_ok-result-in-Ok-clause-nests g c = λ s fits.
    over next_of c.args.state.now (Ok c.in_ok-result-in-Ok.field-0) (Gives (result c.in-Ok.value)) s
    _ fits (ap (λ v. Gives v) (c.in_ok-result-in-Ok.ensures ∙ ap result c.text.ensures))
    (ap (λ o. next_of c.args.held s (outcome_of o)) c.in-Ok.is)

pub returns-in-Err-clause-nests : goal.returns-in-Err-clause-nests
returns-in-Err-clause-nests g c = λ s fits.
    over next_of c.args.state.now (Err c.in-Err.leave) (outcome_of (Err c.in-Err.leave)) s _ fits
    refl
    (ap (λ o. next_of c.args.held s (outcome_of o)) c.in-Err.is
    ∙ value_passes told s c.in-Err.leave)
