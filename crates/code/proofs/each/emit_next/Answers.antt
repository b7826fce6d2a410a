use Rattle.std.proofs.Common.{rules}
use Rattle.code.proofs.Foreach.{next_block}
use Rattle.code.proofs.each.emit_next.Goals as goal

pub returns : goal.returns
returns g c =
    next_block c.args.code.now.items c.push.new.self.items c.emit_assigns.new.code.items
    c.push-2.new.self.items c.fill.new.code.items c.push-3.new.self.items c.args.names.now
    c.args.body c.args.end (search rules) c.in_ok-emit_assigns.ensures (search rules)
    (search rules) (search rules)
