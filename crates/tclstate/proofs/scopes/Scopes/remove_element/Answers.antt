use Rattle.std.proofs.Common.{refl, Some}
use Rattle.std.proofs.lemmas.Result.{on_ok_weaker, IfErr-weaker}
use Rattle.tclstate.specs.Scopes.{removed}
use Rattle.tclstate.specs.ScopeError.{HasTrouble}
use Rattle.tclstate.proofs.Innermost.{on_err_both, changed_innermost, holds_innermost, unchanged_innermost}
use Rattle.tclstate.proofs.scopes.Scopes.remove_element.Goals as goal

pub returns-in-Some-clause-ok : goal.returns-in-Some-clause-ok
returns-in-Some-clause-ok g c =
    on_ok_weaker c.remove_element.result
    (changed_innermost c.self.inside.locals.items _ c.self.inside.locals.ok.0
    (c.in-Some.ensures.variant.0 refl) c.in-Some.frame.now c.in-Some.ensures.value
    c.self.inside.globals _ c.self.view_is (λ s. removed s c.args.name.now (Some c.args.index.now))
    _ _)
    c.remove_element.ensures.ok

pub returns-in-Some-clause-trouble : goal.returns-in-Some-clause-trouble
returns-in-Some-clause-trouble g c =
    IfErr-weaker c.remove_element.result _ _
    (λ e. holds_innermost c.self.inside.locals.items _ c.self.inside.locals.ok.0
    (c.in-Some.ensures.variant.0 refl) c.in-Some.frame.now c.in-Some.ensures.value
    c.self.inside.globals _ c.self.view_is (HasTrouble e)
    (λ s. removed s c.args.name.now (Some c.args.index.now)))
    c.remove_element.ensures.trouble

pub returns-in-Some-clause-unchanged : goal.returns-in-Some-clause-unchanged
returns-in-Some-clause-unchanged g c =
    on_err_both c.remove_element.result
    (unchanged_innermost c.self.inside.locals.items _ c.self.inside.locals.ok.0
    (c.in-Some.ensures.variant.0 refl) c.in-Some.frame.now c.in-Some.ensures.value
    c.self.inside.globals _ c.self.view_is _ _)
    c.remove_element.ensures.unchanged c.remove_element.ensures.unchanged_globals
