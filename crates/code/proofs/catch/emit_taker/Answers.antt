use Rattle.std.proofs.Common.{rules}
use Rattle.code.proofs.Catches.{dropped_block, taken_block}
use Rattle.code.proofs.catch.emit_taker.Goals as goal

pub returns-in_ok-push-in-Some : goal.returns-in_ok-push-in-Some
returns-in_ok-push-in-Some g c =
    taken_block c.args.code.now.items c.push.new.self.items c.args.variable.now c.in-Some.name
    c.in-Some.is (search rules)

pub returns-in_ok-push-in-None : goal.returns-in_ok-push-in-None
returns-in_ok-push-in-None g c =
    dropped_block c.args.code.now.items c.push-in-None.new.self.items c.args.variable.now c.in-None.is
    (search rules)
