use Rattle.std.proofs.Common.{Some, reverse, refl, ap, ◌∙◌, sym}
use Rattle.tclstate.specs.Scopes.{is_link, scopes}
use Rattle.tclstate.specs.Stored.{local_of}
use Rattle.tclstate.proofs.Frames.{own_is_no_link}
use Rattle.tclstate.proofs.Innermost.{variable_here, variable_global}
use Rattle.tclstate.proofs.scopes.Scopes.variable.Goals as goal

pub returns-in-Some-Own : goal.returns-in-Some-Own
returns-in-Some-Own g c =
    let there = ap (λ l. Some (local_of l)) (sym c.in-Some-Own.field-0-is)
    ∙ c.in-Some-Own.ensures in
    there ∙ variable_here c.deref.result.now _ refl c.in-Some.ensures.item.3.0 c.in-Some.frame.now
    c.in-Some.ensures.item.1
    c.self.inside.globals c.args.self.now (ap (λ l. scopes (reverse l) c.self.inside.globals)
    c.deref.ensures.value ∙ c.self.view_is)
    c.args.name.now (sym (ap is_link there) ∙ own_is_no_link c.in-Some-Own.content)

pub returns-in-Some-Link : goal.returns-in-Some-Link
returns-in-Some-Link g c =
    let there = ap (λ l. Some (local_of l)) (sym c.in-Some-Link.field-0-is)
    ∙ c.in-Some-Link.ensures in
    c.get-in-Some-Link.ensures ∙ variable_global c.deref.result.now _ refl
    c.in-Some.ensures.item.3.0 c.in-Some.frame.now c.in-Some.ensures.item.1
    c.self.inside.globals c.args.self.now (ap (λ l. scopes (reverse l) c.self.inside.globals)
    c.deref.ensures.value ∙ c.self.view_is)
    c.args.name.now (sym (ap is_link there))

pub returns-in-None : goal.returns-in-None
returns-in-None g c =
    c.in-None.ensures ∙ variable_here c.deref.result.now _ refl c.in-Some.ensures.item.3.0
    c.in-Some.frame.now c.in-Some.ensures.item.1
    c.self.inside.globals c.args.self.now (ap (λ l. scopes (reverse l) c.self.inside.globals)
    c.deref.ensures.value ∙ c.self.view_is)
    c.args.name.now (sym (ap is_link c.in-None.ensures))
