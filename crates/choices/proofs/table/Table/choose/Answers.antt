use Rattle.std.proofs.Common.{sym}
use Rattle.choices.specs.Choice.{chosen}
use Rattle.choices.proofs.Chosen.{nothing_taken}
use Rattle.choices.proofs.table.Table.choose.Goals as goal

pub returns-then-not-takes-clause-lines : goal.returns-then-not-takes-clause-lines
returns-then-not-takes-clause-lines g c =
    nothing_taken c.args.trigger (chosen c.args.pair.now c.args.found) c.args.self.now.lines
    (sym c.if-not-takes.ensures)
