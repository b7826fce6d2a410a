use Rattle.std.proofs.Common.{rules}
use Rattle.code.proofs.Foreach.{each_block}
use Rattle.code.proofs.each.emit_each.Goals as goal

pub returns : goal.returns
returns g c = λ are.
    let own = c.args.own.now in
    each_block c.args.code.now.items c.push.new.self.items c.emit_deal.new.code.items
    c.fill.new.code.items own.variables own.body own.names.items are (search rules) (search rules)
    (search rules)
