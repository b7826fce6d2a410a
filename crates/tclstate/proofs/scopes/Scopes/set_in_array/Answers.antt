use Rattle.std.proofs.Common.{refl}
use Rattle.tclstate.specs.InTurn.{scopes_extended}
use Rattle.tclstate.proofs.InTurn.{extends_top, none_left}
use Rattle.tclstate.proofs.Innermost.{extends_innermost}
use Rattle.tclstate.proofs.scopes.Scopes.set_in_array.Goals as goal

pub returns-in-Some : goal.returns-in-Some
returns-in-Some g c =
    extends_innermost c.self.inside.locals.items _ c.self.inside.locals.ok.0
    (c.in-Some.ensures.variant.0 refl) c.in-Some.frame.now c.in-Some.ensures.value
    c.self.inside.globals _ c.self.view_is (λ s. scopes_extended s c.args.name.now) _ _
    c.set_in_array.result _ _ c.set_in_array.ensures

pub returns-in-None : goal.returns-in-None
returns-in-None g c =
    extends_top c.args.name.now _ _ c.set_in_array-in-None.result _ _ c.self.inside.locals.items
    (none_left c.self.inside.locals.items _ c.self.inside.locals.ok.0 c.in-None.ensures.variant.1)
    c.self.view_is c.set_in_array-in-None.ensures
