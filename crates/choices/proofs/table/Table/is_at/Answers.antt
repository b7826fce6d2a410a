use Rattle.std.proofs.Common.{◌≡◌, ◌<◌, ◌==◌, Some, List, ap, length, position, subst, sym, ◌∙◌, arith, rules}
use Rattle.acts.specs.declared.id.Id.{Id}
use Rattle.choices.specs.Lines.{Line, upcoming}
use Rattle.choices.proofs.Rising.{position_here}
use Rattle.choices.proofs.table.Table.is_at.Goals as goal

pub returns-then-place-len-clause-place : goal.returns-then-place-len-clause-place
returns-then-place-len-clause-place g c = λ is.
    let below : c.args.place < length c.self.inside.entries.items =
    omega (arith, c.if-place-len.true, c.len.ensures) in
    let same : c.id.result.0 ≡ c.args.id.0 = search rules in
    let here : c.index.result.now.id.0 ≡ c.args.id.0 =
    sym (ap (λ (i : Id). i.0) c.id.ensures) ∙ same in
    subst (λ (ls : List Line). Some c.args.place ≡ position (λ l. l.id.0 == c.args.id.0) ls)
    (ap (λ t. t.lines) c.self.view_is)
    (position_here c.args.id c.self.inside.entries.items (upcoming c.self.inside.next) c.args.place
    c.index.result.now c.self.invariant.1 below c.index.ensures here)
