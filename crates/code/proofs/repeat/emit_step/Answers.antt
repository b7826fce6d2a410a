use Rattle.std.proofs.Common.{rules}
use Rattle.code.proofs.Turns.{step_block}
use Rattle.code.proofs.repeat.emit_step.Goals as goal

pub returns : goal.returns
returns g c =
    step_block c.args.code.now.items c.push.new.self.items c.put_body.new.code.items
    c.push-2.new.self.items c.args.step.now (search rules) (search rules) (search rules)
