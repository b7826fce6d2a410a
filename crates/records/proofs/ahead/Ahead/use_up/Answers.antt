use Rattle.std.proofs.Common.{arith}
use Rattle.records.proofs.Blocks.{left_of_part}
use Rattle.records.proofs.ahead.Ahead.use_up.Goals as goal

pub returns : goal.returns
returns g c =
    let ahead = c.args.self.now in
    left_of_part ahead.block.items ahead.start ahead.end c.args.count (omega arith)
