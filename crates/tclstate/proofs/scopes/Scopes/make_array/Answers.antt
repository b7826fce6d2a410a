use Rattle.std.proofs.Common.{refl}
use Rattle.std.proofs.lemmas.Result.{on_ok_weaker, IfErr-weaker}
use Rattle.tclstate.specs.Scopes.{with_array}
use Rattle.tclstate.specs.ScopeError.{HasTroubleOrRefusal}
use Rattle.tclstate.proofs.Innermost.{on_err_both, changed_innermost, holds_innermost, unchanged_innermost}
use Rattle.tclstate.proofs.scopes.Scopes.make_array.Goals as goal

pub returns-in-Some-clause-ok : goal.returns-in-Some-clause-ok
returns-in-Some-clause-ok g c =
    on_ok_weaker c.make_array.result
    (changed_innermost c.self.inside.locals.items _ c.self.inside.locals.ok.0
    (c.in-Some.ensures.variant.0 refl) c.in-Some.frame.now c.in-Some.ensures.value
    c.self.inside.globals _ c.self.view_is (λ s. with_array s c.args.name.now) _ _)
    c.make_array.ensures.ok

pub returns-in-Some-clause-trouble : goal.returns-in-Some-clause-trouble
returns-in-Some-clause-trouble g c =
    IfErr-weaker c.make_array.result _ _
    (λ e. holds_innermost c.self.inside.locals.items _ c.self.inside.locals.ok.0
    (c.in-Some.ensures.variant.0 refl) c.in-Some.frame.now c.in-Some.ensures.value
    c.self.inside.globals _ c.self.view_is (HasTroubleOrRefusal e)
    (λ s. with_array s c.args.name.now))
    c.make_array.ensures.trouble

pub returns-in-Some-clause-unchanged : goal.returns-in-Some-clause-unchanged
returns-in-Some-clause-unchanged g c =
    on_err_both c.make_array.result
    (unchanged_innermost c.self.inside.locals.items _ c.self.inside.locals.ok.0
    (c.in-Some.ensures.variant.0 refl) c.in-Some.frame.now c.in-Some.ensures.value
    c.self.inside.globals _ c.self.view_is _ _)
    c.make_array.ensures.unchanged c.make_array.ensures.unchanged_globals
