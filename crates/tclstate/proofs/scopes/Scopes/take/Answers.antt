use Rattle.std.proofs.Common.{[], Ok, ◌≡◌, refl, option_copied}
use Rattle.std.proofs.lemmas.Result.{on_ok_weaker, IfOk-weaker, IfErr-weaker}
use Rattle.tclstate.specs.Scopes.{read, written}
use Rattle.tclstate.specs.ScopeError.{HasTrouble}
use Rattle.tclstate.proofs.Innermost.{on_err_both, changed_innermost, holds_innermost, unchanged_innermost}
use Rattle.tclstate.proofs.scopes.Scopes.take.Goals as goal

pub returns-in-Some-clause-value : goal.returns-in-Some-clause-value
returns-in-Some-clause-value g c =
    IfOk-weaker c.take.result _ _
    (λ value. holds_innermost c.self.inside.locals.items _ c.self.inside.locals.ok.0
    (c.in-Some.ensures.variant.0 refl) c.in-Some.frame.now c.in-Some.ensures.value
    c.self.inside.globals _ c.self.view_is (λ r. r ≡ Ok value)
    (λ s. read s c.args.name.now (option_copied c.args.index)))
    c.take.ensures.value

pub returns-in-Some-clause-emptied : goal.returns-in-Some-clause-emptied
returns-in-Some-clause-emptied g c =
    on_ok_weaker c.take.result
    (changed_innermost c.self.inside.locals.items _ c.self.inside.locals.ok.0
    (c.in-Some.ensures.variant.0 refl) c.in-Some.frame.now c.in-Some.ensures.value
    c.self.inside.globals _ c.self.view_is (λ s. written s c.args.name.now
    (option_copied c.args.index) []) _ _)
    c.take.ensures.emptied

pub returns-in-Some-clause-trouble : goal.returns-in-Some-clause-trouble
returns-in-Some-clause-trouble g c =
    IfErr-weaker c.take.result _ _
    (λ e. holds_innermost c.self.inside.locals.items _ c.self.inside.locals.ok.0
    (c.in-Some.ensures.variant.0 refl) c.in-Some.frame.now c.in-Some.ensures.value
    c.self.inside.globals _ c.self.view_is (HasTrouble e)
    (λ s. read s c.args.name.now (option_copied c.args.index)))
    c.take.ensures.trouble

pub returns-in-Some-clause-unchanged : goal.returns-in-Some-clause-unchanged
returns-in-Some-clause-unchanged g c =
    on_err_both c.take.result
    (unchanged_innermost c.self.inside.locals.items _ c.self.inside.locals.ok.0
    (c.in-Some.ensures.variant.0 refl) c.in-Some.frame.now c.in-Some.ensures.value
    c.self.inside.globals _ c.self.view_is _ _)
    c.take.ensures.unchanged c.take.ensures.unchanged_globals
