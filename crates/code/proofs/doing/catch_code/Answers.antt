use Rattle.std.proofs.Common.{rules}
use Rattle.code.proofs.Doings.{catch_so}
use Rattle.code.proofs.doing.catch_code.Goals as goal

pub returns : goal.returns
returns g c = catch_so _ c.args.body c.args.variable (search rules)
