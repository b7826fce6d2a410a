use Rattle.std.proofs.Common.{◌∙◌, ap, sym}
use Rattle.choices.specs.Choice.{is_full}
use Rattle.choices.proofs.Lines.{at_in, absent_in}
use Rattle.choices.proofs.table.Table.is_full_at.Goals as goal

pub returns-in-Some : goal.returns-in-Some
returns-in-Some g c =
    let found = at_in c.args.id c.args.self.now.lines c.self.inside.entries.items c.in-Some.place
    c.index.result.now (ap (λ t. t.lines) c.self.view_is) c.in-Some.ensures.place c.index.ensures in
    c.is_full.ensures ∙ sym (ap is_full found)

pub returns-in-None : goal.returns-in-None
returns-in-None g c =
    sym (ap is_full (absent_in c.args.id c.args.self.now.lines (λ l. l) c.in-None.ensures.place).no_line)
