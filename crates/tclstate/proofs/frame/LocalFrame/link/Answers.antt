use Rattle.std.proofs.Common.{nat_eq, ap, ◌∙◌, ◌∷◌, sym}
use Rattle.std.specs.Cmp.Lexicographic.{pointwise}
use Rattle.std.specs.Map.{remove_entry}
use Rattle.tclstate.specs.Scopes.{scopes}
use Rattle.tclstate.proofs.Reach.{linked_already, linked_last, link_put_last}
use Rattle.tclstate.proofs.frame.LocalFrame.link.Goals as goal

pub returns-then-is_link-clause-ok : goal.returns-then-is_link-clause-ok
returns-then-is_link-clause-ok g c = λ outer globals.
    linked_already c.args.self.now globals c.args.name.now outer (sym c.if-is_link.ensures)

pub returns-clause-ok : goal.returns-clause-ok
returns-clause-ok g c =
    let name = c.args.name.now in
    let last = link_put_last c.self.inside.variables.entries _ c.self.view_is name
    c.shift_remove.new.self.entries
    (c.shift_remove.ensures.entries ∙ ap (remove_entry (λ k. pointwise nat_eq name k.items))
    c.reserve.ensures.entries)
    c.shift_remove.ensures.updates.1 c.in_ok-key.key c.in_ok-key.ensures.items _
    c.in_ok-insert.ensures.entries in
    λ outer globals. linked_last c.args.self.now globals name outer (sym c.if-is_link.ensures)
    ∙ (λ i. scopes (sym last i ∷ outer) globals)
