use Rattle.std.proofs.Common.{◌∙◌, ap, sym, Some}
use Rattle.std.proofs.lemmas.List.{nil_from_length}
use Rattle.acts.specs.declared.id.Id.{Id}
use Rattle.choices.specs.Lines.{least_of, first_id}
use Rattle.choices.proofs.table.Table.first.Goals as goal

pub returns-in-Some : goal.returns-in-Some
returns-in-Some g c =
    ap Some (c.least.ensures ∙ ap (λ (i : Id). least_of i c.in-Some.rest.now) c.id.ensures)
    ∙ ap first_id (sym c.in-Some.ensures.cases.0 ∙ c.deref.ensures.value
    ∙ ap (λ t. t.lines) c.self.view_is)

pub returns-in-None : goal.returns-in-None
returns-in-None g c =
    ap first_id (sym (nil_from_length c.deref.result.now c.in-None.ensures.cases)
    ∙ c.deref.ensures.value ∙ ap (λ t. t.lines) c.self.view_is)
