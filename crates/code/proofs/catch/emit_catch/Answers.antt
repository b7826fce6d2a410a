use Rattle.std.proofs.Common.{rules}
use Rattle.code.proofs.Catches.{catch_block}
use Rattle.code.proofs.catch.emit_catch.Goals as goal

pub returns : goal.returns
returns g c = λ more is.
    let own = c.args.own.now in
    catch_block c.args.code.now.items c.push.new.self.items c.put_body.new.code.items
    c.push-2.new.self.items c.fill.new.code.items c.emit_taker.new.code.items own.body more
    own.variable is (search rules) (search rules) (search rules) (search rules)
    c.in_ok-emit_taker.ensures
