use Rattle.std.proofs.Common.{◌≡◌, None, rules}
use Rattle.dialog.proofs.Elsewhere.{said_again}
use Rattle.readings.specs.Reads.{first_shut}
use Rattle.dialog.proofs.kept_branches.Reading.said_at.Goals as goal

pub returns-in-None : goal.returns-in-None
returns-in-None g c = λ kept.
    let reading = c.args.self.now in
    let lines = c.args.table.now.lines in
    let none : first_shut lines reading.branches.value.named ≡ None = search rules in
    said_again lines reading.current c.args.current reading.standing c.args.standing
    reading.words.items c.args.words.now reading.branches.value kept (search rules) (search rules)
    (search rules) none
