use Rattle.std.proofs.Common.{◌≡◌, ◌∙◌, ◌++◌, ◌↔◌, IsTrue, List, map, ap, subst, sym}
use Rattle.acts.specs.declared.id.Id.{Id}
use Rattle.acts.specs.declared.row.Row.{Row}
use Rattle.choices.specs.Lines.{Rise, numbers, open_ids, rows_of, upcoming}
use Rattle.choices.proofs.Rising.{rise_front}
use Rattle.choices.proofs.RowsKept.{ids_of_rows, rows_of_all}
use Rattle.choices.proofs.table.Table.are_all.Goals as goal

pub returns-clause-ids : goal.returns-clause-ids
returns-clause-ids g c =
    let same : map (λ r. r.id) c.deref.result.now ≡ open_ids c.args.self.now.lines =
    ap (map (λ (r : Row). r.id)) (c.deref.ensures.value ∙ c.self.invariant.2)
    ∙ ids_of_rows c.self.inside.entries.items ∙ ap (λ t. open_ids t.lines) c.self.view_is in
    subst (λ (is : List Id). IsTrue c.have_ids.result ↔ (c.args.ids.now ≡ is)) same
    c.have_ids.ensures

pub returns-clause-rows : goal.returns-clause-rows
returns-clause-rows g c =
    λ are.
    let lines = c.args.self.now.lines in
    let rise = subst (λ t. Rise (numbers t.lines ++ upcoming t.next)) c.self.view_is
    c.self.invariant.1 in
    ap (rows_of lines) ((returns-clause-ids g c).0 are)
    ∙ rows_of_all lines (rise_front (numbers lines) (upcoming c.args.self.now.next) rise)
