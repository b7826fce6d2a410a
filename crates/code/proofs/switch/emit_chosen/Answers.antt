use Rattle.std.proofs.Common.{rules}
use Rattle.code.proofs.Choices.{chosen_block}
use Rattle.code.proofs.switch.emit_chosen.Goals as goal

pub returns : goal.returns
returns g c =
    chosen_block c.args.code.now.items c.push.new.self.items c.put_body.new.code.items
    c.args.body.now (search rules) (search rules)
