use Rattle.std.proofs.Common.{◌∙◌, ap, is_some}
use Rattle.choices.proofs.Lines.{place-position, opens}
use Rattle.choices.proofs.table.Table.is_open.Goals as goal

pub returns : goal.returns
returns g c =
    let lines = c.args.self.now.lines in
    c.is_some.ensures ∙ ap is_some (c.place.ensures.place ∙ place-position c.args.id lines)
    ∙ opens c.args.id lines
