use Rattle.std.proofs.Common.{Err, sym, subst}
use Rattle.meanings.specs.Meaning.{Comes}
use Rattle.meanings.specs.View.{Answers}
use Rattle.state.specs.Prelude.{flaw_of}
use Rattle.steps.specs.Does.{Does}
use Rattle.steps.specs.Formulas.{gives}
use Rattle.steps.specs.Spot.{Went, with_top}
use Rattle.steps.specs.View.{spot_of}
use Rattle.steps.proofs.Meanings.{meaning_does}
use Rattle.steps.proofs.operating.fail.Goals as goal

pub returns-in_ok-failed-in-Fault-clause-does : goal.returns-in_ok-failed-in-Fault-clause-does
returns-in_ok-failed-in-Fault-clause-does g c = λ meaning s answers.
    let spot = spot_of c.args.spot.now in
    let fault = c.in-Fault.fault in
    let comes : Comes meaning (Err (flaw_of fault)) =
    subst (λ why. Answers meaning (Err why)) c.in-Fault.is answers in
    subst (λ d. Does (gives meaning spot s) d)
    (sym (c.in_ok-failed-in-Fault.ensures.does s))
    (meaning_does meaning (Err (flaw_of fault)) spot s (λ v. Went (with_top v spot) s) comes)
