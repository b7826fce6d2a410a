use Rattle.choices.specs.Lines.{line_of}
use Rattle.choices.proofs.RowsMade.{anew_some, anew_none}
use Rattle.choices.proofs.table.Table.row_anew.Goals as goal

pub returns-in-Some : goal.returns-in-Some
returns-in-Some g c = anew_some (line_of c.args.self.now.lines c.args.row.id) c.args.row
    c.in-Some.anew c.in-Some.ensures

pub returns-in-None : goal.returns-in-None
returns-in-None g c = anew_none (line_of c.args.self.now.lines c.args.row.id) c.args.row
    c.in-None.ensures
