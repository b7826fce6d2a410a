use Rattle.std.proofs.Common.{rules}
use Rattle.code.proofs.Turns.{turns_block}
use Rattle.code.proofs.repeat.emit_turns.Goals as goal

pub returns : goal.returns
returns g c = λ is.
    let own = c.args.own.now in
    turns_block c.args.code.now.items c.push.new.self.items c.put_body.new.code.items
    c.emit_end.new.code.items c.fill.new.code.items c.put_expression.new.code.items
    c.push-2.new.self.items c.push-3.new.self.items own.test own.step own.body is
    (search rules) (search rules) (search rules) (search rules) (search rules) (search rules)
    (search rules)
