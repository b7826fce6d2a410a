use Rattle.std.proofs.Common.{◌≡◌, [], subst, sym}
use Rattle.std.proofs.lemmas.List.Elements.{All-push}
use Rattle.std.specs.List.{All}
use Rattle.tclstate.proofs.scopes.Scopes.keep.Goals as goal

pub invariant_of-self : goal.invariant_of-self
invariant_of-self g c =
    subst (All (λ frame. frame ≡ [])) (sym c.push_reserved.ensures.items)
    (All-push (λ frame. frame ≡ []) c.self.inside.spares.items c.clear.new.self c.self.invariant
    c.clear.ensures)
