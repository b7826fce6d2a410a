use Rattle.std.proofs.Common.{◌≡◌, [], IfSome, subst}
use Rattle.std.proofs.lemmas.List.Elements.{All-pop}
use Rattle.tclstate.proofs.scopes.Scopes.fresh_frame.Goals as goal

pub invariant_of-self-2 : goal.invariant_of-self-2
invariant_of-self-2 g c =
    (All-pop (λ frame. frame ≡ []) c.self.inside.spares.items c.pop.new.self.items c.pop.result
    c.pop.ensures.items c.self.invariant).0

pub returns-clause-frame : goal.returns-clause-frame
returns-clause-frame g c =
    subst (λ r. IfSome r (λ frame. frame ≡ [])) c.in-Some.is
    (All-pop (λ frame. frame ≡ []) c.self.inside.spares.items c.pop.new.self.items c.pop.result
    c.pop.ensures.items c.self.invariant).1
