use Rattle.std.proofs.Common.{rules}
use Rattle.code.proofs.Foreach.{deal_block}
use Rattle.code.proofs.each.emit_deal.Goals as goal

pub returns : goal.returns
returns g c =
    deal_block c.args.code.now.items c.push.new.self.items c.put_body.new.code.items
    c.push-2.new.self.items c.fill.new.code.items c.emit_next.new.code.items c.args.names.now
    c.args.body.now (search rules) (search rules) (search rules) (search rules) (search rules)
