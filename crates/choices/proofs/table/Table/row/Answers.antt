use Rattle.std.proofs.Common.{ap, sym}
use Rattle.std.specs.Option.{option_map}
use Rattle.choices.specs.Lines.{row_of_line}
use Rattle.choices.proofs.Lines.{absent_in}
use Rattle.choices.proofs.RowsKept.{row_at}
use Rattle.choices.proofs.table.Table.row.Goals as goal

pub returns-in-Some : goal.returns-in-Some
returns-in-Some g c =
    row_at c.args.id c.args.self.now.lines c.self.inside.entries.items c.self.inside.rows.items
    c.in-Some.place c.index.result.now (ap (λ t. t.lines) c.self.view_is) c.self.invariant.2
    c.in-Some.ensures.inside c.in-Some.ensures.place c.index.ensures

pub returns-in-None : goal.returns-in-None
returns-in-None g c = sym (ap (option_map row_of_line)
    (absent_in c.args.id c.args.self.now.lines (λ l. l) c.in-None.ensures.place).no_line)
