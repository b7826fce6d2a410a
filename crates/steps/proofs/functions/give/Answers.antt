use Rattle.std.proofs.Common.{Ok, sym, subst}
use Rattle.meanings.specs.Meaning.{Comes}
use Rattle.meanings.specs.View.{Answers}
use Rattle.steps.specs.Does.{Does}
use Rattle.steps.specs.Formulas.{gives}
use Rattle.steps.specs.Spot.{Went, with_top}
use Rattle.steps.specs.View.{spot_of}
use Rattle.steps.proofs.Meanings.{meaning_does}
use Rattle.steps.proofs.functions.give.Goals as goal

pub returns-in_ok-put-in-Ok-clause-does : goal.returns-in_ok-put-in-Ok-clause-does
returns-in_ok-put-in-Ok-clause-does g c = λ meaning s answers.
    let spot = spot_of c.args.spot.now in
    let value = c.in-Ok.value in
    let comes : Comes meaning (Ok value) = subst (λ r. Answers meaning r) c.in-Ok.is answers in
    subst (λ d. Does (gives meaning spot s) d) (sym (c.in_ok-put-in-Ok.ensures.does s))
    (meaning_does meaning (Ok value) spot s (λ v. Went (with_top v spot) s) comes)
