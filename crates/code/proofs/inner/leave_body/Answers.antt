use Rattle.std.proofs.Common.{rules}
use Rattle.code.proofs.Inners.{left_block}
use Rattle.code.proofs.inner.leave_body.Goals as goal

pub returns : goal.returns
returns g c =
    left_block c.args.code.now.items c.push.new.self.items c.args.text.now c.args.after
    (search rules)
