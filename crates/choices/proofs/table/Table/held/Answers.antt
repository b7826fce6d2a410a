use Rattle.std.proofs.Common.{◌∙◌, ◌≤◌, ap, subst, sym, length}
use Rattle.choices.specs.Lines.{held_by, allowed_to}
use Rattle.choices.proofs.table.Table.held.Goals as goal

pub sum_held-requires : goal.sum_held-requires
sum_held-requires g c =
    subst (λ ls. length ls ≤ 64) (sym c.deref.ensures.value) c.self.invariant.0

pub returns-clause-held : goal.returns-clause-held
returns-clause-held g c =
    c.sum_held.ensures.held
    ∙ ap held_by (c.deref.ensures.value ∙ ap (λ t. t.lines) c.self.view_is)

pub returns-clause-within : goal.returns-clause-within
returns-clause-within g c =
    subst (λ ls. c.sum_held.result ≤ allowed_to ls)
    (c.deref.ensures.value ∙ ap (λ t. t.lines) c.self.view_is) c.sum_held.ensures.within
