use Rattle.std.proofs.Common.{rules}
use Rattle.code.proofs.Inners.{left_expression}
use Rattle.code.proofs.inner.leave_expression.Goals as goal

pub returns : goal.returns
returns g c =
    left_expression c.args.code.now.items c.push.new.self.items c.args.text.now (search rules)
