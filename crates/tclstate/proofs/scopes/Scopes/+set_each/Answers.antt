use Rattle.std.proofs.Common.{◌∷◌, sym, ap, ◌∙◌}
use Rattle.tclstate.specs.InTurn.{elements_in}
use Rattle.tclstate.proofs.InTurn.{trouble_of_first, left_later}
use Rattle.tclstate.proofs.scopes.Scopes.+set_each.Goals as goal

pub returns-in-Ok-clause-left : goal.returns-in-Ok-clause-left
returns-in-Ok-clause-left g t c =
    left_later c.args.self.now c.args.name.now c.in-Some.first.now.0.now c.replace-value.result
    (elements_in c.args.elements.now) (elements_in c.in-Some.rest.now)
    (ap elements_in c.in-Some.ensures.cases.0
    ∙ ap (λ v. (c.in-Some.first.now.0.now, v) ∷ elements_in c.in-Some.rest.now)
    (sym c.replace-value.ensures.value))
    c.set.new.self _ c.set_each.result c.in-Ok.ensures.ok c.set_each.ensures.trouble
    c.set_each.ensures.left

pub returns-in-Err-clause-trouble : goal.returns-in-Err-clause-trouble
returns-in-Err-clause-trouble g t c =
    trouble_of_first c.args.self.now c.args.name.now c.in-Some.first.now.0.now
    c.replace-value.result (elements_in c.args.elements.now) (elements_in c.in-Some.rest.now)
    (ap elements_in c.in-Some.ensures.cases.0
    ∙ ap (λ v. (c.in-Some.first.now.0.now, v) ∷ elements_in c.in-Some.rest.now)
    (sym c.replace-value.ensures.value))
    c.in-Err.error c.in-Err.ensures.trouble
