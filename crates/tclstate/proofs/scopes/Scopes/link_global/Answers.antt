use Rattle.std.proofs.Common.{refl}
use Rattle.std.proofs.lemmas.Result.{on_ok_weaker, on_err_weaker}
use Rattle.tclstate.specs.Scopes.{linked}
use Rattle.tclstate.proofs.Innermost.{linked_innermost, unchanged_innermost}
use Rattle.tclstate.proofs.scopes.Scopes.link_global.Goals as goal

pub returns-clause-ok : goal.returns-clause-ok
returns-clause-ok g c =
    on_ok_weaker c.link.result
    (λ e. linked_innermost c.self.inside.locals.items _ c.self.inside.locals.ok.0
    (c.in-Some.ensures.variant.0 refl) c.in-Some.frame.now c.in-Some.ensures.value
    c.self.inside.globals _ c.self.view_is (λ s. linked s c.args.name.now) _
    (λ outer. e outer c.self.inside.globals))
    c.link.ensures.ok

pub returns-clause-unchanged : goal.returns-clause-unchanged
returns-clause-unchanged g c =
    on_err_weaker c.link.result
    (λ same. unchanged_innermost c.self.inside.locals.items _ c.self.inside.locals.ok.0
    (c.in-Some.ensures.variant.0 refl) c.in-Some.frame.now c.in-Some.ensures.value
    c.self.inside.globals _ c.self.view_is _ _ same refl)
    c.link.ensures.unchanged
