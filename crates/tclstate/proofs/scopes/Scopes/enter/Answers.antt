use Rattle.std.proofs.Common.{◌≡◌, [], subst, sym}
use Rattle.std.specs.List.{All}
use Rattle.tclstate.proofs.scopes.Scopes.enter.Goals as goal

pub invariant_of-self-in_err-push : goal.invariant_of-self-in_err-push
invariant_of-self-in_err-push g c =
    subst (All (λ frame. frame ≡ [])) (sym c.reserve.ensures.items) c.self.invariant

pub invariant_of-self-2 : goal.invariant_of-self-2
invariant_of-self-2 g c =
    subst (All (λ frame. frame ≡ [])) (sym c.reserve.ensures.items) c.self.invariant
